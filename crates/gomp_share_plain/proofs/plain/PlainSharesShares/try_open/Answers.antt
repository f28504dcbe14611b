use Rattle.std.proofs.Common.{◌≡◌, ◌<◌, ◌^◌, arith, rules, ◌∙◌, sym, ap, subst, length, not, true, false}
use Rattle.std.specs.Prelude.{option_copied, IsTrue}
use Rattle.std.proofs.lemmas.List.{length-set}
use Rattle.gomp_events.specs.Events.{has_room}
use Rattle.gomp_shares.specs.Calls.{CanOpen}
use Rattle.gomp_share_plain.proofs.Room.{room_by, no_room, room_before, each_room}
use Rattle.gomp_share_plain.proofs.Places.{place_is, seat_entered, next_place, not_empty, next_same, next_differs, next_number_is_count, new_differs}
use Rattle.gomp_share_plain.proofs.EntersKeep.{entering_stands, opening_stands}
use Rattle.gomp_share_plain.proofs.Views.{own_seat, known_by}
use Rattle.gomp_share_plain.proofs.plain.PlainSharesShares.try_open.Goals as goal

pub returns-then-not-is_same-clause-answer : goal.returns-then-not-is_same-clause-answer
returns-then-not-is_same-clause-answer c = λ h st0.
    let (can, st, at) = own_seat _ _ c.args.member c.index.result.now h (λ n seen. CanOpen n c.args.member c.args.shape.now seen) c.self.view_is c.requires.place c.requires.place.member st0 c.index.ensures in
    let there = place_is _ _ _ c.at.ensures.there (ap option_copied c.in-Some.is) in
    sym (next_differs _ _ _ _ h c.args.member c.index.result.now c.in-Some.share.now c.args.shape.now st at c.if-number-self.true there) ∙ ap not (sym c.is_same.ensures ∙ c.if-not-is_same.true)

pub returns-then-number-self-clause-answer : goal.returns-then-number-self-clause-answer
returns-then-number-self-clause-answer c = λ h st0.
    let (can, st, at) = own_seat _ _ c.args.member c.index.result.now h (λ n seen. CanOpen n c.args.member c.args.shape.now seen) c.self.view_is c.requires.place c.requires.place.member st0 c.index.ensures in
    let there = place_is _ _ _ c.at.ensures.there (ap option_copied c.in-Some.is) in
    let s = st.seat c.args.member _ at in
    rw (← c.self.view_is) (
      sym (next_differs _ _ _ _ h c.args.member c.index.result.now c.in-Some.share.now c.args.shape.now st at c.if-number-self.true there) ∙ ap not (sym c.is_same.ensures ∙ c.if-not-is_same.false),
      subst (λ n. has_room (length c.self.inside.seats.items) n h ≡ true) (seat_entered _ _ _ _ h s) (room_before _ _ _ _ h c.index.result.now.seen.entered st c.if-number-self.true),
    )

pub returns-then-number-self-clause-stands : goal.returns-then-number-self-clause-stands
returns-then-number-self-clause-stands c = λ h st0.
    let (can, st, at) = own_seat _ _ c.args.member c.index.result.now h (λ n seen. CanOpen n c.args.member c.args.shape.now seen) c.self.view_is c.requires.place c.requires.place.member st0 c.index.ensures in
    let there = place_is _ _ _ c.at.ensures.there (ap option_copied c.in-Some.is) in
    let may = rw (← c.self.view_is) at (returns-then-number-self-clause-answer c h st0) in
    rw (length-set c.self.inside.seats.items c.args.member _, c.in_share.ensures.seat) (entering_stands _ _ _ _ h c.args.member c.index.result.now c.args.shape.now st at can may c.if-number-self.true
    (next_same _ _ _ _ h c.args.member c.index.result.now c.in-Some.share.now c.args.shape.now st at c.if-number-self.true there (sym c.is_same.ensures ∙ c.if-not-is_same.false)))

pub invariant_of-self : goal.invariant_of-self
invariant_of-self c = let (h, st0) = known_by _ _ c.self.view_is c.self.invariant in (_, returns-then-number-self-clause-stands c h st0)

pub returns-then-not-has_room-clause-answer : goal.returns-then-not-has_room-clause-answer
returns-then-not-has_room-clause-answer c = λ h st0.
    let (can, st, at) = own_seat _ _ c.args.member c.index.result.now h (λ n seen. CanOpen n c.args.member c.args.shape.now seen) c.self.view_is c.requires.place c.requires.place.member st0 c.index.ensures in
    let s = st.seat c.args.member _ at in
    rw (← c.self.view_is) (
      new_differs _ _ _ _ h c.args.member c.index.result.now c.args.shape.now st at c.if-number-self.false,
      subst (λ n. has_room (length c.self.inside.seats.items) n h ≡ false) (seat_entered _ _ _ _ h s) (no_room _ _ _ _ h c.index.result.now.seen.entered st (λ all.
          let seats : c.deref.result.now ≡ c.self.inside.seats.items = c.deref.ensures.value in
          let found : IsTrue c.has_room.result = c.has_room.ensures.1 (rw seats all) in
          grind (arith, found, c.if-not-has_room.true))),
    )

pub overflow_add-self : goal.overflow_add-self
overflow_add-self c =
    let (h, st0) = known_by _ _ c.self.view_is c.self.invariant in
    let (can, st, at) = own_seat _ _ c.args.member c.index.result.now h (λ n seen. CanOpen n c.args.member c.args.shape.now seen) c.self.view_is c.requires.place c.requires.place.member st0 c.index.ensures in
    let number = seat_entered _ _ _ _ h (st.seat c.args.member _ at) in
    let few = can.few in
    omega arith

pub in_share-requires : goal.in_share-requires
in_share-requires c =
    let (h, st0) = known_by _ _ c.self.view_is c.self.invariant in
    let (can, st, at) = own_seat _ _ c.args.member c.index.result.now h (λ n seen. CanOpen n c.args.member c.args.shape.now seen) c.self.view_is c.requires.place c.requires.place.member st0 c.index.ensures in
    let number = seat_entered _ _ _ _ h (st.seat c.args.member _ at) in
    let few = can.few in
    omega arith

pub in_share-requires-2 : goal.in_share-requires-2
in_share-requires-2 c =
    let (h, st0) = known_by _ _ c.self.view_is c.self.invariant in
    let (can, st, at) = own_seat _ _ c.args.member c.index.result.now h (λ n seen. CanOpen n c.args.member c.args.shape.now seen) c.self.view_is c.requires.place c.requires.place.member st0 c.index.ensures in
    let number = seat_entered _ _ _ _ h (st.seat c.args.member _ at) in
    let few = can.few in
    omega arith

pub returns-clause-answer : goal.returns-clause-answer
returns-clause-answer c = λ h st0.
    let (can, st, at) = own_seat _ _ c.args.member c.index.result.now h (λ n seen. CanOpen n c.args.member c.args.shape.now seen) c.self.view_is c.requires.place c.requires.place.member st0 c.index.ensures in
    let s = st.seat c.args.member _ at in
    rw (← c.self.view_is) (
      new_differs _ _ _ _ h c.args.member c.index.result.now c.args.shape.now st at c.if-number-self.false,
      subst (λ n. has_room (length c.self.inside.seats.items) n h ≡ true) (seat_entered _ _ _ _ h s) (room_by _ _ _ _ h c.index.result.now.seen.entered st (each_room _ _ (
          let seats : c.deref.result.now ≡ c.self.inside.seats.items = c.deref.ensures.value in
          rw seats at (c.has_room.ensures.0 (grind (arith, c.if-not-has_room.false)))))),
    )

pub returns-clause-stands : goal.returns-clause-stands
returns-clause-stands c = λ h st0.
    let (can, st, at) = own_seat _ _ c.args.member c.index.result.now h (λ n seen. CanOpen n c.args.member c.args.shape.now seen) c.self.view_is c.requires.place c.requires.place.member st0 c.index.ensures in
    let may = rw (← c.self.view_is) at (returns-clause-answer c h st0) in
    let now = next_number_is_count _ _ _ _ h c.args.member c.index.result.now st at c.if-number-self.false in
    let size : c.len-members.result ≡ length c.self.inside.seats.items = search rules in
    let all = each_room c.self.inside.seats.items c.index.result.now.seen.entered (
    let seats : c.deref.result.now ≡ c.self.inside.seats.items = c.deref.ensures.value in
    rw seats at (c.has_room.ensures.0 (grind (arith, c.if-not-has_room.false)))) in
    rw (c.put.ensures, length-set c.self.inside.seats.items c.args.member _, c.in_share-2.ensures.seat, now) (opening_stands _ _ _ _ h c.args.member c.index.result.now c.args.shape.now c.new.result (c.new.ensures.plan ∙ c.of.ensures.plan ∙ ap (λ n. record { members = n; shape = c.args.shape.now }) size) st at can may now (rw now at all))

pub invariant_of-self-2 : goal.invariant_of-self-2
invariant_of-self-2 c = let (h, st0) = known_by _ _ c.self.view_is c.self.invariant in (_, returns-clause-stands c h st0)

pub unreachable-requires : goal.unreachable-requires
unreachable-requires c =
    let (h, st0) = known_by _ _ c.self.view_is c.self.invariant in
    let (can, st, at) = own_seat _ _ c.args.member c.index.result.now h (λ n seen. CanOpen n c.args.member c.args.shape.now seen) c.self.view_is c.requires.place c.requires.place.member st0 c.index.ensures in
    not_empty _ _ _ h (next_place _ _ _ _ h c.args.member c.index.result.now st at c.if-number-self.true) (place_is _ _ _ c.at.ensures.there (ap option_copied c.in_default.is))

pub overflow_cast-members : goal.overflow_cast-members
overflow_cast-members c =
    let team : length c.self.inside.seats.items < 2 ^ 16 = c.self.invariant.1.team in
    let size : c.len-members.result ≡ length c.self.inside.seats.items = search rules in
    grind (arith, size, team)
