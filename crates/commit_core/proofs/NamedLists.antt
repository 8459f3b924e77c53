-- Terms that are named each once, in the order in which triples have them.
use Rattle.std.proofs.Common.{◌≡◌, ◌∙◌, ℕ, zero, suc, ◌+◌, ◌<◌, ◌≤◌, Bool, true, false, ◌&&◌, ◌||◌, cond, List, [], ◌∷◌, ◌++◌, length, get_or, take, refl, sym, ap, subst, arith, inl, inr, append_assoc}
use Rattle.std.specs.List.{AllByRecursion, Contains, filter, flat_map}
use Rattle.std.specs.Prelude.{not}
use Rattle.std.proofs.Math.Seq.{take-suc}
use Rattle.std.proofs.lemmas.Grind.{flat_map-append}
use Rattle.std.proofs.lemmas.List.{get_or-take, get_or_default, length-take-le, map-append, take_all}
use Rattle.std.proofs.lemmas.List.Elements.{Contains-append_right, Contains-get_or}
use Rattle.collections.specs.Ordered.{IsAscending, has_item, with_item}
use Rattle.collections.proofs.Ascending.{IsAscending-with_item}
use Rattle.collections.proofs.Members.{has_cases, has_head, same_lists, with_cases, with_old}
use Rattle.rdf_model.specs.declared.ids.Ids.{Ids}
use Rattle.rdf_model.specs.declared.term.Term.{Term}
use Rattle.rdf_model.specs.declared.term.Term.TheVariants.{Blank}
use Rattle.rdf_model.specs.Numbers.{AreNumbered, graph_of, term_at, triple_at}
use Rattle.rdf_model.specs.Orders.{term_total}
use Rattle.rdf_model.specs.Terms.{term_cmp}
use Rattle.store_model.specs.declared.event.NameKind.{NameKind}
use Rattle.store_model.specs.declared.event.NameKind.TheVariants.{Fresh, Known, Attach}
use Rattle.store_model.specs.Nodes.{given_by, given_with, is_blank, unknown_by}
use Rattle.store_model.specs.Store.{named_with, terms_of}
use Rattle.store_model.proofs.Nodes.{ascending-given_with, member-given_with}
use Rattle.term_dict.specs.Faults.{IsCause}
use Rattle.term_dict.specs.Names.{AreNumbersOf, IsNumberOf, Named, with_term, with_terms}
use Rattle.term_dict.specs.declared.fault.NameFault.{NameFault}
use Rattle.term_dict.specs.declared.fault.NameFault.TheVariants.{Full, Memory}
use Rattle.data_graph.specs.DataGraphs.{NamedGraph}
use Rattle.commit_core.specs.declared.naming.NamedTerms.{NamedTerms}
use Rattle.data_graph.specs.Numbering.{HasPlaces}
use Rattle.commit_core.specs.Naming.{AreNamedAlike, IsListNaming, IsMetAt, IsNaming, part_numbers}
use Rattle.commit_core.proofs.NamedTerms.{has_name, name_has, names_stay, same_names}

-- one term more
names_push : (named ps : List Term) (t : Term) → with_terms named (ps ++ t ∷ []) ≡ with_term (with_terms named ps) t
names_push named [] t = refl
names_push named (p ∷ ps) t = names_push (with_term named p) ps t

given_push : (given ps : List Term) (t : Term) → given_with given (ps ++ t ∷ []) ≡ cond (is_blank t) (with_item term_cmp t (given_with given ps)) (given_with given ps)
given_push given [] t = refl
given_push given (p ∷ ps) t = given_push (cond (is_blank p) (with_item term_cmp p given) given) ps t

-- a term that was named
named_each : (named ts : List Term) (t : Term) → Contains ts t → Contains (named_with named ts) t
named_each named [] t c = absurd (omega arith)
named_each named (u ∷ us) t c = elim (has_item term_cmp u named) as (λ b. has_item term_cmp u named ≡ b → Contains (named_with (cond b named (named ++ u ∷ [])) us) t) [
  | true ↦ λ h. elim (has_cases u us t c) [
    | inl e ↦ names_stay named us t (subst (λ (w : Term). Contains named w) e (has_name named u h))
    | inr d ↦ named_each named us t d
  ]
  | false ↦ λ h. elim (has_cases u us t c) [
    | inl e ↦ names_stay (named ++ u ∷ []) us t (subst (λ (w : Term). Contains (named ++ u ∷ []) w) e (Contains-append_right named (u ∷ []) u (has_head u [])))
    | inr d ↦ named_each (named ++ u ∷ []) us t d
  ]
] refl

again_named : (named ts : List Term) (t : Term) → Contains ts t → with_term (with_terms named ts) t ≡ with_terms named ts
again_named named ts t c =
    let all = with_terms named ts in
    let there : Contains all t = subst (λ (us : List Term). Contains us t) (sym (same_names named ts)) (named_each named ts t c) in
    ap (λ b. cond b all (all ++ t ∷ [])) (name_has all t there)

or_last : (a b : Bool) → b ≡ true → (a || b) ≡ true
or_last true b h = refl
or_last false b h = h

both : (a b : Bool) → a ≡ true → b ≡ true → (a && b) ≡ true
both true b e h = h
both false b e h = e

again_given : (given ts : List Term) (t : Term) → IsAscending term_cmp given → is_blank t ≡ true → Contains ts t → with_item term_cmp t (given_with given ts) ≡ given_with given ts
again_given given ts t a blank c =
    let all = given_with given ts in
    let ascends = ascending-given_with given ts a in
    let there : Contains all t = has_name all t (member-given_with given ts t ∙ or_last (has_item term_cmp t given) (is_blank t && has_item term_cmp t ts) (both (is_blank t) (has_item term_cmp t ts) blank (name_has ts t c))) in
    same_lists term_cmp term_total (with_item term_cmp t all) all (IsAscending-with_item term_total t all ascends) ascends
    (λ w. (λ d. elim (with_cases term_cmp t all w d) [ inl e ↦ subst (λ (x : Term). Contains all x) e there | inr k ↦ k ], λ d. with_old term_cmp t all w d))

met_again : (ts ps : List Term) (t : Term) → AreNamedAlike ts ps → Contains ts t → AreNamedAlike ts (ps ++ t ∷ [])
met_again ts ps t a c = record {
  names = λ named. names_push named ps t ∙ ap (λ (us : List Term). with_term us t) (a.names named) ∙ again_named named ts t c;
  given = λ given ascends. given_push given ps t ∙ (elim (is_blank t) as (λ b. is_blank t ≡ b → cond b (with_item term_cmp t (given_with given ps)) (given_with given ps) ≡ given_with given ts) [
    | true ↦ λ e. ap (with_item term_cmp t) (a.given given ascends) ∙ again_given given ts t ascends e c
    | false ↦ λ e. a.given given ascends
  ] refl);
}

met_first : (ts ps : List Term) (t : Term) → AreNamedAlike ts ps → AreNamedAlike (ts ++ t ∷ []) (ps ++ t ∷ [])
met_first ts ps t a = record {
  names = λ named. names_push named ps t ∙ ap (λ (us : List Term). with_term us t) (a.names named) ∙ sym (names_push named ts t);
  given = λ given ascends. given_push given ps t ∙ ap (λ (us : List Term). cond (is_blank t) (with_item term_cmp t us) us) (a.given given ascends) ∙ sym (given_push given ts t);
}

-- what was met of some terms: so many of the first, and they are named as these parts are
abbrev pub HasMet : List Term → ℕ → List Term → Type 0
HasMet terms next ps = (next ≤ length terms) × AreNamedAlike (take next terms) ps

pub none_met : (terms : List Term) → HasMet terms 0 []
none_met terms = (omega arith, record { names = λ named. refl; given = λ given a. refl })

met_at : (terms ps : List Term) (next place later : ℕ) → place < length terms → IsMetAt next place later → HasMet terms next ps → HasMet terms later (ps ++ term_at terms place ∷ [])
met_at terms ps next place later lt (inl m) h =
    let t = term_at terms place in
    let long = length-take-le next terms h.0 in
    let below = m.0 in
    let inside : place < length (take next terms) = omega (arith, below, long) in
    let there : Contains (take next terms) t = subst (λ (u : Term). Contains (take next terms) u) (get_or-take next terms place (Blank 0 0) below) (Contains-get_or (take next terms) place (Blank 0 0) inside) in
    subst (λ (n : ℕ). HasMet terms n (ps ++ t ∷ [])) (sym m.1) (h.0, met_again (take next terms) ps t h.1 there)
met_at terms ps next place later lt (inr m) h =
    let e = m.0 in
    let f = m.1 in
    let size : later ≤ length terms = omega (arith, lt, e, f) in
    let same : later ≡ suc place = omega (arith, e, f) in
    let all : take later terms ≡ take next terms ++ term_at terms place ∷ [] =
    ap (λ (n : ℕ). take n terms) same ∙ take-suc terms place (Blank 0 0) lt ∙ ap (λ (n : ℕ). take n terms ++ term_at terms place ∷ []) e in
    (size, subst (λ (us : List Term). AreNamedAlike us (ps ++ term_at terms place ∷ [])) (sym all) (met_first (take next terms) ps (term_at terms place) h.1))

met_three : (terms ps : List Term) (next s p later : ℕ) (i : Ids) → (i.subject < length terms) × (i.predicate < length terms) × (i.object < length terms) → IsMetAt next i.subject s → IsMetAt s i.predicate p → IsMetAt p i.object later → HasMet terms next ps → HasMet terms later (ps ++ terms_of (triple_at terms i))
met_three terms ps next s p later i lt a b c h =
    let x = term_at terms i.subject in
    let y = term_at terms i.predicate in
    let z = term_at terms i.object in
    let all = met_at terms ((ps ++ x ∷ []) ++ y ∷ []) p i.object later lt.2 c (met_at terms (ps ++ x ∷ []) s i.predicate p lt.1 b (met_at terms ps next i.subject s lt.0 a h)) in
    let same : ((ps ++ x ∷ []) ++ y ∷ []) ++ z ∷ [] ≡ ps ++ terms_of (triple_at terms i) =
    append_assoc (ps ++ x ∷ []) (y ∷ []) (z ∷ []) ∙ append_assoc ps (x ∷ []) (y ∷ z ∷ []) in
    subst (λ (us : List Term). HasMet terms later us) same all

-- the parts of triples, and of one more
abbrev pub parts_at : List Term → List Ids → List Term
parts_at terms is = flat_map terms_of (graph_of terms is)

triples_push : (is : List Ids) (k : ℕ) (i : Ids) → k < length is → i ≡ get_or is k i → take (k + 1) is ≡ take k is ++ i ∷ []
triples_push is k i lt e = ap (λ (n : ℕ). take n is) (let next : k + 1 ≡ suc k = omega arith in next) ∙ take-suc is k i lt ∙ ap (λ (j : Ids). take k is ++ j ∷ []) (sym e)

parts_push : (terms : List Term) (is js : List Ids) (i : Ids) → js ≡ is ++ i ∷ [] → parts_at terms js ≡ parts_at terms is ++ terms_of (triple_at terms i)
parts_push terms is js i e =
    ap (parts_at terms) e ∙ ap (flat_map terms_of) (map-append (triple_at terms) is (i ∷ [])) ∙ flat_map-append terms_of (graph_of terms is) (triple_at terms i ∷ [])

numbered_at : (terms : List Term) (is : List Ids) (k : ℕ) (i : Ids) → AreNumbered terms is → k < length is → i ≡ get_or is k i → (i.subject < length terms) × (i.predicate < length terms) × (i.object < length terms)
numbered_at terms [] k i a lt e = absurd (omega (arith, lt))
numbered_at terms (j ∷ is) zero i a lt e = subst (λ (x : Ids). (x.subject < length terms) × (x.predicate < length terms) × (x.object < length terms)) (sym e) a.0
numbered_at terms (j ∷ is) (suc k) i a lt e = numbered_at terms is k i a.1 (omega (arith, lt)) e

pub met_more : (terms : List Term) (is : List Ids) (k next later : ℕ) (d : Ids) → AreNumbered terms is → k < length is → (s p : ℕ) × IsMetAt next (get_or is k d).subject s × IsMetAt s (get_or is k d).predicate p × IsMetAt p (get_or is k d).object later → HasMet terms next (parts_at terms (take k is)) → HasMet terms later (parts_at terms (take (k + 1) is))
met_more terms is k next later d a lt m h =
    let i = get_or is k d in
    let e = get_or_default is k d i lt in
    let own = met_three terms (parts_at terms (take k is)) next m.0 m.1 later i (numbered_at terms is k i a lt e) m.2 m.3 m.4 h in
    subst (λ (us : List Term). HasMet terms later us) (sym (parts_push terms (take k is) (take (k + 1) is) i (triples_push is k i lt e))) own

pub all_met : (terms : List Term) (is : List Ids) (k next : ℕ) → length is ≤ k → next ≡ length terms → HasMet terms next (parts_at terms (take k is)) → AreNamedAlike terms (parts_at terms is)
all_met terms is k next le e h =
    let own = subst (λ (js : List Ids). AreNamedAlike (take next terms) (parts_at terms js)) (take_all k is le) h.1 in
    subst (λ (us : List Term). AreNamedAlike us (parts_at terms is)) (take_all next terms (omega (arith, e))) own

-- the numbers of parts
number_at : (names ts : List Term) (ns : List ℕ) (k : ℕ) → AreNumbersOf names ts ns → k < length ts → IsNumberOf names (term_at ts k) (get_or ns k 0)
number_at names [] ns k a lt = absurd (omega (arith, lt))
number_at names (t ∷ ts) [] k a lt = absurd a
number_at names (t ∷ ts) (n ∷ ns) zero a lt = a.0
number_at names (t ∷ ts) (n ∷ ns) (suc k) a lt = number_at names ts ns k a.1 (omega (arith, lt))

place_at : (names ts : List Term) (ns : List ℕ) (k : ℕ) → AreNumbersOf names ts ns → k < length ts → k < length ns
place_at names [] ns k a lt = absurd (omega (arith, lt))
place_at names (t ∷ ts) [] k a lt = absurd a
place_at names (t ∷ ts) (n ∷ ns) zero a lt = omega arith
place_at names (t ∷ ts) (n ∷ ns) (suc k) a lt = let rest = place_at names ts ns k a.1 (omega (arith, lt)) in omega (arith, rest)

module _ (names ts : List Term) (ns : List ℕ) (a : AreNumbersOf names ts ns) where
  pub have_places : (is : List Ids) → AreNumbered ts is → AllByRecursion (HasPlaces ns) is
  have_places [] h = tt
  have_places (i ∷ is) h = ((place_at names ts ns i.subject a h.0.0, place_at names ts ns i.predicate a h.0.1, place_at names ts ns i.object a h.0.2), have_places is h.1)

  pub parts_numbered : (is : List Ids) → AreNumbered ts is → AreNumbersOf names (parts_at ts is) (flat_map (part_numbers ns) is)
  parts_numbered [] h = tt
  parts_numbered (i ∷ is) h =
      (number_at names ts ns i.subject a h.0.0, (number_at names ts ns i.predicate a h.0.1, (number_at names ts ns i.object a h.0.2, parts_numbered is h.1)))

-- what naming the terms gives is what naming the parts gives
module _ (ts ps : List Term) (alike : AreNamedAlike ts ps) (given : List Term) (ascends : IsAscending term_cmp given) where
  same_given : (kind : NameKind) → given_by kind given ts ≡ given_by kind given ps
  same_given Fresh = sym (alike.given given ascends)
  same_given Known = refl
  same_given Attach = refl

  same_unknown : (kind : NameKind) → unknown_by kind given ts ≡ unknown_by kind given ps
  same_unknown Fresh = refl
  same_unknown Known = refl
  same_unknown Attach = ap (filter (λ t. not (has_item term_cmp t given))) (sym (alike.given [] tt))

  same_naming : (kind : NameKind) (graph : NamedGraph) (n : NamedTerms) → IsNaming kind graph given ts n → IsNaming kind graph given ps n
  same_naming kind graph n is =
      let names : with_terms graph.terms ts ≡ with_terms graph.terms ps = sym (alike.names graph.terms) in
      record {
        graph_is = is.graph_is ∙ (λ i. record { triples = graph.triples; shapes = graph.shapes; terms = names i; limit = graph.limit });
        fits = subst (λ (us : List Term). length us ≤ graph.limit + 2) names is.fits;
        given_is = is.given_is ∙ same_given kind;
        names_are = is.names_are;
      }

-- why naming the terms fails is why naming the parts does
pub same_cause : (ts ps : List Term) → AreNamedAlike ts ps → (d : Named) (fault : NameFault) → IsCause fault d ts → IsCause fault d ps
same_cause ts ps alike d (Full count) h = (h.0, h.1 ∙ ap length (sym (alike.names d.terms)))
same_cause ts ps alike d Memory h = tt

-- what naming terms each once gives a list
pub list_naming : (kind : NameKind) (graph : NamedGraph) (given ts : List Term) (is : List Ids) (n : NamedTerms) (ns parts : List ℕ) → AreNumbered ts is → AreNamedAlike ts (parts_at ts is) → IsAscending term_cmp given → unknown_by kind given ts ≡ [] → IsNaming kind graph given ts n → AreNumbersOf n.graph.terms ts ns → parts ≡ flat_map (part_numbers ns) is → IsListNaming kind graph given (parts_at ts is) n parts
list_naming kind graph given ts is n ns parts numbered alike ascends known naming are e = record {
  naming = same_naming ts (parts_at ts is) alike given ascends kind graph n naming;
  known = sym (same_unknown ts (parts_at ts is) alike given ascends kind) ∙ known;
  numbers_are = subst (λ (ms : List ℕ). AreNumbersOf n.graph.terms (parts_at ts is) ms) (sym e) (parts_numbered n.graph.terms ts ns are is numbered);
}
