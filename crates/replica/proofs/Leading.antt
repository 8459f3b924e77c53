-- Entries that lead from one follower to another.
use Rattle.std.proofs.Common.{◌≡◌, ℕ, ◌≤◌, List, [], ◌∷◌, ◌++◌, length, refl, sym, ap, subst, arith, length-append}
use Rattle.std.proofs.Common.{inl, inr}
use Rattle.std.specs.List.{Contains}
use Rattle.collections.proofs.Members.{has_cases}
use Rattle.record_text.specs.declared.record.Record.{Record}
use Rattle.follower.specs.declared.fed.Fed.{Fed}
use Rattle.follower.specs.declared.fed.Fed.TheVariants.{Differs, Known, Window, Full, Waiting, Misfit, Applied}
use Rattle.follower.specs.Followed.{Feeds, Followed, version_of}
use Rattle.replica.specs.declared.entry.Entry.{Entry}
use Rattle.replica.specs.declared.entry.Entry.TheVariants.{Feed, Read, Void}
use Rattle.replica.specs.Entries.{Answers, Enters, IsMisfit, Leads, Tells}

pub leads_on : (s t u : Followed) (es : List Entry) (e : Entry) → Leads s es t → Enters t e u → Leads s (es ++ e ∷ []) u
leads_on s t u [] e l n = (u, subst (λ (x : Followed). Enters x e u) l n, refl)
leads_on s t u (x ∷ es) e l n = (l.0, l.1, leads_on l.0 t u es e l.2 n)

pub leads_split : (s u : Followed) (es more : List Entry) → Leads s (es ++ more) u → (t : Followed) × Leads s es t × Leads t more u
leads_split s u [] more l = (s, refl, l)
leads_split s u (x ∷ es) more l = let r = leads_split l.0 u es more l.2 in (r.0, (l.0, l.1, r.1), r.2)

-- a misfit changes nothing
pub misfit_keeps : (s t : Followed) (r : Record) (a : Fed) → IsMisfit a → Feeds s r a t → t ≡ s
misfit_keeps s t r (Differs number) m f = absurd m
misfit_keeps s t r (Known version) m f = absurd m
misfit_keeps s t r (Window version) m f = absurd m
misfit_keeps s t r (Full count) m f = absurd m
misfit_keeps s t r (Waiting version) m f = absurd m
misfit_keeps s t r (Misfit number triple) m f = f.4
misfit_keeps s t r (Applied version dropped) m f = absurd m

-- the version never falls
as_high : (s t : Followed) → t ≡ s → version_of s ≤ version_of t
as_high s t e = let n = ap version_of e in omega (arith, n)

fed_grows : (s t : Followed) (r : Record) (a : Fed) → Feeds s r a t → version_of s ≤ version_of t
fed_grows s t r (Differs number) f = as_high s t f.2
fed_grows s t r (Known version) f = as_high s t f.2
fed_grows s t r (Window version) f = as_high s t f.3
fed_grows s t r (Full count) f = as_high s t f.4
fed_grows s t r (Waiting version) f = let n = ap version_of f.3 in omega (arith, n)
fed_grows s t r (Misfit number triple) f = as_high s t f.4
fed_grows s t r (Applied version dropped) f =
    let n = ap length f.4.applied in
    let m = length-append s.applied (r ∷ f.4.moved) in
    omega (arith, n, m)

entry_grows : (s t : Followed) (e : Entry) → Enters s e t → version_of s ≤ version_of t
entry_grows s t (Feed r fed) n = fed_grows s t r fed n
entry_grows s t (Read version) n = as_high s t n.1
entry_grows s t Void n = as_high s t n

pub leads_grow : (s t : Followed) (es : List Entry) → Leads s es t → version_of s ≤ version_of t
leads_grow s t [] l = as_high s t l
leads_grow s t (e ∷ es) l =
    let first = entry_grows s l.0 e l.1 in
    let more = leads_grow l.0 t es l.2 in
    omega (arith, first, more)

-- nor below a version that was told
answer_below : (s t : Followed) (r : Record) (a : Fed) (n : ℕ) → Feeds s r a t → Answers a n → n ≤ version_of t
answer_below s t r (Differs number) n f a = absurd a
answer_below s t r (Known version) n f a = let is = f.1 in let same = ap version_of f.2 in omega (arith, a, is, same)
answer_below s t r (Window version) n f a = let is = f.2 in let same = ap version_of f.3 in omega (arith, a, is, same)
answer_below s t r (Full count) n f a = absurd a
answer_below s t r (Waiting version) n f a = let is = f.2 in let same = ap version_of f.3 in omega (arith, a, is, same)
answer_below s t r (Misfit number triple) n f a = absurd a
answer_below s t r (Applied version dropped) n f a = let is = f.3 in omega (arith, a, is)

entry_below : (s t : Followed) (e : Entry) (n : ℕ) → Enters s e t → Tells e n → n ≤ version_of t
entry_below s t (Feed r fed) n f a = answer_below s t r fed n f a
entry_below s t (Read version) n f a = let is = f.0 in let same = ap version_of f.1 in omega (arith, a, is, same)
entry_below s t Void n f a = absurd a

pub told_below : (s t : Followed) (es : List Entry) (e : Entry) (n : ℕ) → Leads s es t → Contains es e → Tells e n → n ≤ version_of t
told_below s t [] e n l c a = absurd (let lt = c.1 in omega (arith, lt))
told_below s t (x ∷ es) e n l c a = elim (has_cases x es e c) [
  | inl same ↦
      let here = entry_below s l.0 x n l.1 (subst (λ (y : Entry). Tells y n) (sym same) a) in
      let more = leads_grow l.0 t es l.2 in
      omega (arith, here, more)
  | inr d ↦ told_below l.0 t es e n l.2 d a
]

-- an answer of which the entry has a copy
pub told_entry : (s t : Followed) (r copy : Record) (a told : Fed) → Feeds s r a t → copy ≡ r → told ≡ a → Enters s (Feed copy told) t
told_entry s t r copy a told f e o = subst (λ (x : Fed). Feeds s copy x t) (sym o) (subst (λ (x : Record). Feeds s x a t) (sym e) f)

-- one entry more behind those that led to a follower
pub leads_more : (s t u u' : Followed) (es later : List Entry) (e : Entry) → Leads s es t → Enters t e u → u' ≡ u → later ≡ es ++ e ∷ [] → Leads s later u'
leads_more s t u u' es later e l n same is = subst (λ (x : Followed). Leads s later x) (sym same) (subst (λ (x : List Entry). Leads s x u) (sym is) (leads_on s t u es e l n))
