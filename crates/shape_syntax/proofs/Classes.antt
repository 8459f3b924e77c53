-- The classes that a node reaches.
use Rattle.std.proofs.Common.{◌≡◌, ◌<◌, List, [], ◌∷◌, ◌++◌, length, map, refl, sym, subst, arith, inl, inr, length-append}
use Rattle.std.specs.List.{Contains}
use Rattle.std.proofs.lemmas.List.{length-map}
use Rattle.rdf_model.specs.declared.term.Term.{Term}
use Rattle.rdf_model.specs.declared.triple.Triple.{Triple}
use Rattle.shape_model.specs.Vocabulary.{rdf_type, sub_class_of}
use Rattle.shape_model.specs.Triples.{Has, IsMember}
use Rattle.shape_model.specs.Walks.{Chain}
use Rattle.shape_model.specs.Instances.{Instance}
use Rattle.shape_syntax.specs.Scans.{IsNextClass, LeadsOn}
use Rattle.shape_syntax.proofs.Scans.{image_of, member_cases}
use Rattle.shape_syntax.proofs.Pigeonholes.{AreDistinct, distinct_push, no_longer}

chain_push : (R : Term → Term → Type 0) (x : Term) (zs : List Term) (y z : Term) → Chain R x zs y → R y z → Chain R x (zs ++ z ∷ []) z
chain_push R x [] y z e r = (subst (λ (w : Term). R w z) (sym e) r, refl)
chain_push R x (w ∷ zs) y z c r = (c.0, chain_push R w zs y z c.1 r)

-- all of the classes are the node's
abbrev pub AreClasses : List Triple → Term → List Term → Type 0
AreClasses g n classes = (c : Term) → IsMember classes c → Instance g n c

-- what follows on the node and its classes is one of its classes
pub next_instance : (g : List Triple) (n : Term) (classes : List Term) (c : Term) → AreClasses g n classes → IsNextClass g n classes c → Instance g n c
next_instance g n classes c all i = elim i [
  | inl h ↦ (c, h, ([], refl))
  | inr h ↦ let k = all h.0 h.1 in (k.0, k.1, (k.2.0 ++ c ∷ [], chain_push (λ a b. Has g a sub_class_of b) k.0 k.2.0 h.0 c k.2.1 h.2))
]

pub classes_push : (g : List Triple) (n : Term) (classes : List Term) (c : Term) → AreClasses g n classes → IsNextClass g n classes c → AreClasses g n (classes ++ c ∷ [])
classes_push g n classes c all h d i = elim (member_cases classes c d i) [ inl j ↦ all d j | inr e ↦ subst (λ (x : Term). Instance g n x) e (next_instance g n classes c all h) ]

along : (g : List Triple) (n : Term) (classes : List Term) → ((c : Term) → IsNextClass g n classes c → IsMember classes c) → (x : Term) (zs : List Term) (c : Term) → IsMember classes x → Chain (λ a b. Has g a sub_class_of b) x zs c → IsMember classes c
along g n classes closed x [] c i e = subst (λ (w : Term). IsMember classes w) e i
along g n classes closed x (z ∷ zs) c i k = along g n classes closed z zs c (closed z (inr (x, i, k.0))) k.1

-- where nothing further follows, they are all
pub all_classes : (g : List Triple) (n : Term) (classes : List Term) → ((c : Term) → IsNextClass g n classes c → IsMember classes c) → (c : Term) → Instance g n c → IsMember classes c
all_classes g n classes closed c k = along g n classes closed k.0 k.2.0 c (closed k.0 (inl k.1)) k.2.1

abbrev objects : List Triple → List Term
objects g = map (λ (t : Triple). t.object) g

object_in : (g : List Triple) (x p y : Term) → Has g x p y → IsMember (objects g) y
object_in g x p y h = image_of (λ (t : Triple). t.object) g (record { subject = x; predicate = p; object = y }) y h refl

chain_object : (g : List Triple) (x : Term) (zs : List Term) (c : Term) → IsMember (objects g) x → Chain (λ a b. Has g a sub_class_of b) x zs c → IsMember (objects g) c
chain_object g x [] c i e = subst (λ (w : Term). IsMember (objects g) w) e i
chain_object g x (z ∷ zs) c i k = chain_object g z zs c (object_in g x sub_class_of z k.0) k.1

-- there are no more classes than triples
pub few_classes : (g : List Triple) (n : Term) (classes : List Term) (c : Term) → AreClasses g n classes → AreDistinct classes → IsNextClass g n classes c → (IsMember classes c → ⊥) → length classes < length g
few_classes g n classes c all distinct h apart =
    let more = classes_push g n classes c all h in
    let le = no_longer (classes ++ c ∷ []) (objects g) (distinct_push classes c distinct apart) (λ w i. let k = more w i in chain_object g k.0 k.2.0 w (object_in g n rdf_type k.0 k.1) k.2.1) in
    let e : length (objects g) ≡ length g = length-map g (λ (t : Triple). t.object) in omega (arith, length-append classes (c ∷ []))

-- a triple leads to what follows
pub next_from : (g : List Triple) (n : Term) (classes : List Term) (t : Triple) → Contains g t → LeadsOn n classes t → IsNextClass g n classes t.object
next_from g n classes t c h = elim h [
  | inl k ↦ inl (subst (λ (p : Term). Has g n p t.object) k.0 (subst (λ (x : Term). Has g x t.predicate t.object) k.1 c))
  | inr k ↦ inr (t.subject, k.1, subst (λ (p : Term). Has g t.subject p t.object) k.0 c)
]

-- where each triple that leads on leads to a class among them, nothing follows
pub closed_from : (g : List Triple) (n : Term) (classes : List Term) → ((t : Triple) → Contains g t → LeadsOn n classes t → IsMember classes t.object) → (c : Term) → IsNextClass g n classes c → IsMember classes c
closed_from g n classes all c h = elim h [
  | inl k ↦ all (record { subject = n; predicate = rdf_type; object = c }) k (inl (refl, refl))
  | inr k ↦ all (record { subject = k.0; predicate = sub_class_of; object = c }) k.2 (inr (refl, k.1))
]
