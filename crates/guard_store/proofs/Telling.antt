-- What turns, openings and meetings tell of the one history.
use Rattle.std.proofs.Common.{◌≡◌, true, false, List, [], ◌∷◌, ◌++◌, refl, sym, ap, ◌∙◌, subst}
use Rattle.turn_lock.specs.History.{has_number, reserved, under}
use Rattle.turn_lock.specs.Callers.{Caller}
use Rattle.turn_lock.proofs.Added.{reserved_own, under_own}
use Rattle.turn_lock.proofs.Numbers.{has_among}
use Rattle.store_model.specs.declared.event.Event.{Event}
use Rattle.store_model.specs.Store.{Replays}
use Rattle.guard_store.specs.Slots.{Origin}
use Rattle.guard_store.specs.Fronts.{session_of}
use Rattle.guard_store.specs.Laws.{AddsOne, TurnsAddOne, OpeningsAddOne, MeetingsKeepFronts}
use Rattle.guard_store.proofs.Turning.{front_is, opening_reserved}
use Rattle.guard_store.proofs.Opening.{open_event, number_made}

pub turns_add_one : TurnsAddOne
turns_add_one store old new e t =
    let b = t.others.begins in record {
      others = b.0;
      front = front_is store old new e t ∙ ap (λ (x : List Event). x ++ e ∷ []) (sym b.1);
      before = t.before;
      replays = subst (λ (x : List Event). Replays store.limits store.start x t.before) (sym b.1) t.replays;
      after = t.after;
      step = t.step;
      own = λ held. ap (under session_of e.session) (front_is store old new e t) ∙ (under_own session_of t.seen e ∙ ap (λ (x : List Event). x ++ e ∷ []) (t.others.own e.session held));
    }

pub openings_add_one : OpeningsAddOne
openings_add_one store old kept new i first o =
    let t = o.turn in
    let e = open_event i in
    let one = turns_add_one store old o.mid e t in
    let same : kept.known.front ≡ o.mid.known.front = ap (λ c. c.known.front) o.kept_is in
    let adds : AddsOne store old kept e = record {
      others = one.others;
      front = same ∙ one.front;
      before = one.before;
      replays = one.replays;
      after = one.after;
      step = one.step;
      own = λ held. ap (under session_of i) same ∙ one.own held;
    } in record {
      adds = adds;
      same = ap (λ c. c.known.front) o.new_is ∙ sym same;
      reserved = ap (reserved session_of false) (same ∙ front_is store old o.mid e t)
          ∙ (reserved_own session_of false t.seen e (opening_reserved store.limits store.start t.seen t.before t.after e t.replays t.step refl) ∙ ap (λ (x : List Event). x ++ e ∷ []) (t.others.first first));
      own = subst (λ (c : Caller Event Origin). has_number c.known.numbers i ≡ true) (sym o.new_is) (has_among i o.mid.known.numbers (number_made store old o.mid i t));
    }

pub meetings_keep_fronts : MeetingsKeepFronts
meetings_keep_fronts keeper session after first this that = record {
  added = this.begins.0;
  front = sym this.begins.1;
  more = that.begins.0;
  other = sym that.begins.1;
  reserved = this.first first;
  own = λ i held. that.own i held;
}
