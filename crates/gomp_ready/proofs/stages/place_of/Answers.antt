use Rattle.std.proofs.Common.{◌≡◌, ◌<◌, ◌-◌, ℕ, length, false, arith, subst, Some}
use Rattle.std.specs.Prelude.{slice_range}
use Rattle.std.proofs.lemmas.List.Elements.{AllWithin-none, AllWithin-more}
use Rattle.gomp_ready.specs.Ready.{IsFirstBy}
use Rattle.gomp_ready.proofs.Looked.{holds_at_read, found_in_range, none_in_range}
use Rattle.gomp_ready.proofs.stages.place_of.Goals as goal

pub returns-then-from-to : goal.returns-then-from-to
returns-then-from-to g c = record {
  first = none_in_range (goal.F-post g c.args.may.now) c.args.list.now.items c.args.from c.args.to c.args.from c.requires.places.0 c.requires.places.1 (omega arith) (AllWithin-none (λ t. goal.F-post g c.args.may.now t false) c.args.list.now.items c.args.from);
}

pub returns-then-may : goal.returns-then-may
returns-then-may g c = record {
  first =
      let answers = goal.F-post g c.args.may.now in let list = c.args.list.now.items in let from = c.args.from in let to = c.args.to in
      let none : from - from ≡ 0 = omega arith in
      let some : from < to = omega (arith, c.requires.places.0, c.if-from-to.false) in
      subst (λ (n : ℕ). IsFirstBy answers (slice_range list from to) (Some n)) none
      (found_in_range answers list from to from c.index.result.now (omega arith) some c.requires.places.1 c.index.ensures c.if-may.ensures (AllWithin-none (λ t. answers t false) list from));
}

pub loop-place-init : goal.loop-place-init
loop-place-init g c =
    let Refused = λ (t : ℕ). goal.F-post g c.args.may.now t false in
    let list = c.args.list.now.items in
    let some : c.args.from < length list = omega (arith, c.requires.places.0, c.requires.places.1, c.if-from-to.false) in
    record { refused = AllWithin-more Refused list c.args.from c.args.from (AllWithin-none Refused list c.args.from) (holds_at_read Refused list c.args.from c.index.result.now some c.index.ensures c.if-may.ensures) }

pub returns-then-may-2 : goal.returns-then-may-2
returns-then-may-2 g c = record {
  first = found_in_range (goal.F-post g c.args.may.now) c.args.list.now.items c.args.from c.args.to c.loop-place.place c.index-in-loop-place.result.now (omega (arith, c.loop-place.auto.place)) c.loop-place-test.true c.requires.places.1 c.index-in-loop-place.ensures c.if-may-2.ensures c.loop-place.invariant.refused;
}

pub loop-place-preserved : goal.loop-place-preserved
loop-place-preserved g c =
    let Refused = λ (t : ℕ). goal.F-post g c.args.may.now t false in
    let list = c.args.list.now.items in
    let place = c.loop-place.place in
    let lt : place < length list = omega (arith, c.loop-place-test.true, c.requires.places.1) in
    record { refused = AllWithin-more Refused list c.args.from place c.loop-place.invariant.refused (holds_at_read Refused list place c.index-in-loop-place.result.now lt c.index-in-loop-place.ensures c.if-may-2.ensures) }

pub returns : goal.returns
returns g c = record {
  first = none_in_range (goal.F-post g c.args.may.now) c.args.list.now.items c.args.from c.args.to c.loop-place.place c.requires.places.0 c.requires.places.1 (omega arith) c.loop-place.invariant.refused;
}
