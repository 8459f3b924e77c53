-- What is known of a page that was opened.
use Rattle.std.proofs.Common.{◌≡◌, ◌∙◌, ℕ, ◌<◌, ◌≤◌, List, [], ◌∷◌, ◌++◌, length, sym, subst, ap, arith, inl, inr}
use Rattle.std.specs.declared.cmp.Ordering.{Ordering}
use Rattle.collections.specs.Ordered.{IsAscending}
use Rattle.page_tree.specs.Blocks.{Image, Block, AreBelow, AreSound, IsRemovable, keys_of, height_of, most}
use Rattle.page_tree.specs.Pages.{image_of, IsPage}
use Rattle.page_tree.specs.declared.page.Node.{Node}
use Rattle.page_tree.specs.declared.page.Node.TheVariants.{Leaf, Inner}
use Rattle.page_tree.proofs.Sides.{keys-append, below-append, sound-own}

-- a page that was found to stand over these
pub record IsOver {K : Type 0} (R : K → K → Ordering) (page : Image K) (bs : List (Block K)) : Type 0 where
  pub keys : page.keys ≡ keys_of bs
  pub height : page.height ≡ height_of bs
  pub width : page.width ≡ length bs
  pub sound : AreSound R (height_of bs) bs
  pub some : 0 < length bs
  pub few : length bs ≤ most

pub opened : {K : Type 0} (R : K → K → Ordering) (node : Node K) (es : _) (page : Image K) → IsPage R node → node ≡ Inner es → image_of node ≡ page → IsOver R page es.items
opened R node es page p is view =
    let q = subst (λ n. IsPage R n) is p in
    let e = ap image_of (sym is) ∙ view in
    record { keys = sym (ap (λ d. d.keys) e); height = sym (ap (λ d. d.height) e); width = sym (ap (λ d. d.width) e); sound = q.2; some = q.1; few = q.0 }

pub joined-sound : {K : Type 0} (R : K → K → Ordering) (p q : Image K) (fs ls all : List (Block K)) → IsOver R p fs → IsOver R q ls → all ≡ fs ++ ls → p.height ≡ q.height → IsAscending R (p.keys ++ q.keys) → AreSound R (height_of all) all
joined-sound {K} R p q fs ls all a b is h s = sound-own R (height_of fs) all (subst (λ (bs : List (Block K)). AreSound R (height_of fs) bs) (sym is) (record {
  ascending = subst (λ (ks : List K). IsAscending R ks) (let e = a.keys in let f = b.keys in let k = keys-append fs ls in cc (e, f, k)) s;
  below = below-append (height_of fs) fs ls a.sound.below (subst (λ (n : ℕ). AreBelow n ls) (sym b.height ∙ sym h ∙ a.height) b.sound.below);
}))

pub joined-keys : {K : Type 0} (R : K → K → Ordering) (p q : Image K) (fs ls all : List (Block K)) → IsOver R p fs → IsOver R q ls → all ≡ fs ++ ls → keys_of all ≡ p.keys ++ q.keys
joined-keys R p q fs ls all a b is = let e = a.keys in let f = b.keys in let k = keys-append fs ls in cc (e, f, k, ap keys_of is)

pub joined-height : {K : Type 0} {R : K → K → Ordering} (p : Image K) (fs ls all : List (Block K)) → IsOver R p fs → all ≡ fs ++ ls → height_of all ≡ p.height
joined-height p [] ls all a is = absurd (let s = a.some in omega arith)
joined-height p (b ∷ fs) ls all a is = ap height_of is ∙ sym a.height

-- a page that was found to be a leaf of these keys
pub record IsLeaf {K : Type 0} (R : K → K → Ordering) (page : Image K) (ks : List K) : Type 0 where
  pub keys : page.keys ≡ ks
  pub height : page.height ≡ 0
  pub width : page.width ≡ length ks
  pub few : length ks ≤ most
  pub ascending : IsAscending R ks

pub opened-leaf : {K : Type 0} (R : K → K → Ordering) (node : Node K) (ks : _) (page : Image K) → IsPage R node → node ≡ Leaf ks → image_of node ≡ page → IsLeaf R page ks.items
opened-leaf R node ks page p is view =
    let q = subst (λ n. IsPage R n) is p in
    let e = ap image_of (sym is) ∙ view in
    record { keys = sym (ap (λ (d : Image _). d.keys) e); height = sym (ap (λ (d : Image _). d.height) e); width = sym (ap (λ (d : Image _). d.width) e); few = q.0; ascending = q.1 }

-- a page over others that something may be taken out of stands over two
pub two-below : {K : Type 0} {R : K → K → Ordering} (page : Image K) (bs : List (Block K)) → IsOver R page bs → IsRemovable page → 1 < length bs
two-below page [] o r = absurd (let s = o.some in omega arith)
two-below page (b ∷ bs) o r = let h = o.height in let w = o.width in elim r [ inl e ↦ absurd (omega arith) | inr e ↦ omega arith ]
