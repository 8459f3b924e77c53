-- Changes by the numbers at the places of their terms.
use Rattle.std.proofs.Common.{◌≡◌, ◌∙◌, ℕ, zero, suc, ◌+◌, ◌<◌, List, [], ◌∷◌, ◌++◌, length, get_or, take, refl, sym, subst, ap, arith, inl, inr, map}
use Rattle.std.specs.List.{AllByRecursion, AllZip, Contains}
use Rattle.std.proofs.Math.Seq.{take-suc}
use Rattle.std.proofs.lemmas.List.Elements.{All-contains, Contains-get_or}
use Rattle.std.proofs.lemmas.Slice.Zip.{AllZip-long}
use Rattle.collections.proofs.Members.{has_cases, has_head, has_tail}
use Rattle.rdf_model.specs.declared.change.Change.{Change}
use Rattle.rdf_model.specs.declared.change.Change.TheVariants as changes
use Rattle.rdf_model.specs.declared.ids.Ids.{Ids}
use Rattle.rdf_model.specs.declared.term.Term.{Term}
use Rattle.rdf_model.specs.declared.term.Term.TheVariants.{Blank}
use Rattle.rdf_model.specs.declared.triple.Triple.{Triple}
use Rattle.rdf_model.specs.Numbers.{AreNumbered, graph_of, term_at, triple_at}
use Rattle.store_model.specs.Store.{changed_triple}
use Rattle.term_dict.specs.Names.{AreNumbersOf, IsNumberOf}
use Rattle.parallel_validate.specs.Named.{IsNamedTriple}
use Rattle.triple_index.specs.Changes.{IsNumbered, IsNumberedChange, change_at}
use Rattle.triple_index.specs.declared.change.NumberedChange.{NumberedChange}
use Rattle.triple_index.specs.declared.change.NumberedChange.TheVariants.{Add, Remove}
use Rattle.data_graph.specs.DataGraphs.{AreNamedChanges}
use Rattle.data_graph.specs.Nets.{ids_changed}
use Rattle.data_graph.specs.Numbering.{AreNumbersWhereNamed, HasChangePlaces, IsNumberWhereNamed, change_by, ids_at}
use Rattle.data_graph.proofs.Selecting.{numbers_named}

zip_push : {A B : Type 0} (R : A → B → Type 0) (xs : List A) (ys : List B) (x : A) (y : B) → AllZip R xs ys → R x y → AllZip R (xs ++ x ∷ []) (ys ++ y ∷ [])
zip_push R [] [] x y a r = (r, tt)
zip_push R [] (w ∷ ys) x y a r = absurd a
zip_push R (z ∷ xs) [] x y a r = absurd a
zip_push R (z ∷ xs) (w ∷ ys) x y a r = (a.0, zip_push R xs ys x y a.1 r)

-- one term more
pub one_more : (names ts : List Term) (ns ms : List ℕ) (i : ℕ) (t u : Term) (n : ℕ) → i < length ts → t ≡ get_or ts i t → u ≡ t → ms ≡ ns ++ n ∷ [] → AreNumbersWhereNamed names (take i ts) ns → IsNumberWhereNamed names u n → AreNumbersWhereNamed names (take (i + 1) ts) ms
one_more names ts ns ms i t u n lt is same e a r =
    let next : take (i + 1) ts ≡ take i ts ++ t ∷ [] = ap (λ (k : ℕ). take k ts) (let k : i + 1 ≡ suc i = omega arith in k) ∙ take-suc ts i t lt ∙ ap (λ (w : Term). take i ts ++ (w ∷ [])) (sym is) in
    let own : IsNumberWhereNamed names t n = subst (λ (w : Term). IsNumberWhereNamed names w n) same r in
    subst (λ (us : List Term). AreNumbersWhereNamed names us ms) (sym next) (subst (λ (ks : List ℕ). AreNumbersWhereNamed names (take i ts ++ t ∷ []) ks) (sym e) (zip_push (IsNumberWhereNamed names) (take i ts) ns t n a own))

module _ (names : List Term) where
  number_of : (ts : List Term) (ns : List ℕ) (k : ℕ) → AreNumbersWhereNamed names ts ns → k < length ts → Contains names (term_at ts k) → IsNumberOf names (term_at ts k) (get_or ns k 0)
  number_of [] ns k a lt c = absurd (omega (arith, lt))
  number_of (t ∷ ts) [] k a lt c = absurd a
  number_of (t ∷ ts) (n ∷ ns) zero a lt c = a.0 c
  number_of (t ∷ ts) (n ∷ ns) (suc k) a lt c = number_of ts ns k a.1 (omega (arith, lt)) c

  module _ (ts : List Term) (ns : List ℕ) (a : AreNumbersWhereNamed names ts ns) where
    within : (k : ℕ) → k < length ts → k < length ns
    within k lt = let long = AllZip-long (IsNumberWhereNamed names) ts ns a in omega (arith, lt, long)

    place_within : (i : Ids) → IsNumbered ts i → (i.subject < length ns) × (i.predicate < length ns) × (i.object < length ns)
    place_within i h = (within i.subject h.0, within i.predicate h.1, within i.object h.2)

    pub have_places : (cs : List NumberedChange) → AllByRecursion (IsNumberedChange ts) cs → AllByRecursion (HasChangePlaces ns) cs
    have_places [] h = tt
    have_places (Add i ∷ cs) h = (place_within i h.0, have_places cs h.1)
    have_places (Remove i ∷ cs) h = (place_within i h.0, have_places cs h.1)

    triple_numbered : (i : Ids) → IsNumbered ts i → IsNamedTriple names (triple_at ts i) → IsNumbered names (ids_at ns i) × (triple_at names (ids_at ns i) ≡ triple_at ts i)
    triple_numbered i h n =
        let s = number_of ts ns i.subject a h.0 n.0 in
        let p = number_of ts ns i.predicate a h.1 n.1 in
        let o = number_of ts ns i.object a h.2 n.2 in
        let s' = s.is in
        let p' = p.is in
        let o' = o.is in
        ((s.within, p.within, o.within), λ k. record { subject = s' k; predicate = p' k; object = o' k })

    change_numbered : (c : NumberedChange) → IsNumberedChange ts c → IsNamedTriple names (changed_triple (change_at ts c)) → IsNumberedChange names (change_by ns c) × (change_at names (change_by ns c) ≡ change_at ts c)
    change_numbered (Add i) h n = let t = triple_numbered i h n in (t.0, ap (λ (t : Triple). changes.Add t) t.1)
    change_numbered (Remove i) h n = let t = triple_numbered i h n in (t.0, ap (λ (t : Triple). changes.Remove t) t.1)

    each_numbered : (cs : List NumberedChange) → AllByRecursion (IsNumberedChange ts) cs → ((c : Change) → Contains (map (change_at ts) cs) c → IsNamedTriple names (changed_triple c)) → AllByRecursion (IsNumberedChange names) (map (change_by ns) cs) × (map (change_at names) (map (change_by ns) cs) ≡ map (change_at ts) cs)
    each_numbered [] h n = (tt, refl)
    each_numbered (c ∷ cs) h n =
        let first = change_numbered c h.0 (n (change_at ts c) (has_head (change_at ts c) (map (change_at ts) cs))) in
        let rest = each_numbered cs h.1 (λ d k. n d (has_tail (change_at ts c) (map (change_at ts) cs) d k)) in
        let head = first.1 in
        let tail = rest.1 in
        ((first.0, rest.0), λ i. head i ∷ tail i)

    pub all_numbered : (cs made : List NumberedChange) (net : List Change) → map (change_at ts) cs ≡ net → AllByRecursion (IsNumberedChange ts) cs → AreNamedChanges names net → made ≡ map (change_by ns) cs → AllByRecursion (IsNumberedChange names) made × (map (change_at names) made ≡ net)
    all_numbered cs made net e h n m =
        let named = subst (λ (ds : List Change). AreNamedChanges names ds) (sym e) n in
        let each = each_numbered cs h (λ c k. All-contains (λ (c : Change). IsNamedTriple names (changed_triple c)) (map (change_at ts) cs) c named k) in (
          subst (λ (ds : List NumberedChange). AllByRecursion (IsNumberedChange names) ds) (sym m) each.0,
          ap (map (change_at names)) m ∙ each.1 ∙ e,
        )

  -- the triples of changes
  triple_changed : (c : NumberedChange) → triple_at names (ids_changed c) ≡ changed_triple (change_at names c)
  triple_changed (Add i) = refl
  triple_changed (Remove i) = refl

  triple_within : (c : NumberedChange) → IsNumberedChange names c → IsNumbered names (ids_changed c)
  triple_within (Add i) h = h
  triple_within (Remove i) h = h

  ids_within : (cs : List NumberedChange) → AllByRecursion (IsNumberedChange names) cs → AreNumbered names (map ids_changed cs)
  ids_within [] h = tt
  ids_within (c ∷ cs) h = (triple_within c h.0, ids_within cs h.1)

  triples_of : (cs : List NumberedChange) → graph_of names (map ids_changed cs) ≡ map changed_triple (map (change_at names) cs)
  triples_of [] = refl
  triples_of (c ∷ cs) = let head = triple_changed c in let tail = triples_of cs in λ i. head i ∷ tail i

  pub ids_of_changes : (cs : List NumberedChange) (net : List Change) (is : List Ids) → AllByRecursion (IsNumberedChange names) cs → map (change_at names) cs ≡ net → is ≡ map ids_changed cs → AreNumbered names is × (graph_of names is ≡ map changed_triple net)
  ids_of_changes cs net is h e m = (
    subst (λ (js : List Ids). AreNumbered names js) (sym m) (ids_within cs h),
    ap (graph_of names) m ∙ triples_of cs ∙ ap (map changed_triple) e,
  )

  -- changes of terms that have numbers
  module _ (ts : List Term) (ns : List ℕ) (a : AreNumbersOf names ts ns) where
    at_named : (k : ℕ) → k < length ts → Contains names (term_at ts k)
    at_named k lt = numbers_named names ts ns a (term_at ts k) (Contains-get_or ts k (Blank 0 0) lt)

    change_named : (c : NumberedChange) → IsNumberedChange ts c → IsNamedTriple names (changed_triple (change_at ts c))
    change_named (Add i) h = (at_named i.subject h.0, at_named i.predicate h.1, at_named i.object h.2)
    change_named (Remove i) h = (at_named i.subject h.0, at_named i.predicate h.1, at_named i.object h.2)

    each_named : (cs : List NumberedChange) → AllByRecursion (IsNumberedChange ts) cs → (c : Change) → Contains (map (change_at ts) cs) c → IsNamedTriple names (changed_triple c)
    each_named [] h c k = absurd (omega arith)
    each_named (d ∷ cs) h c k = elim (has_cases (change_at ts d) (map (change_at ts) cs) c k) [
      | inl e ↦ subst (λ (x : Change). IsNamedTriple names (changed_triple x)) e (change_named d h.0)
      | inr k ↦ each_named cs h.1 c k
    ]

    pub changes_named : (cs : List NumberedChange) (net : List Change) → map (change_at ts) cs ≡ net → AllByRecursion (IsNumberedChange ts) cs → AreNamedChanges names net
    changes_named cs net e h k d lt = subst (λ (ds : List Change). (c : Change) → Contains ds c → IsNamedTriple names (changed_triple c)) e (each_named cs h) (get_or net k d) (Contains-get_or net k d lt)
