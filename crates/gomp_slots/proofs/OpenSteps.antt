-- The steps by which a member takes the slot of its next share, stores the words of the share, and opens it.
use Rattle.std.proofs.Common.{◌≡◌, ℕ, ◌+◌, ◌<◌, Bool, true, false, List, ◌∷◌, set, Option, Some, None, inl, inr, refl, ap, sym, ◌∙◌, subst, arith, slice_index}
use Rattle.std.specs.Prelude.{◌==◌}
use Rattle.std.proofs.lemmas.Bool.{cases_Bool, cases_lt}
use Rattle.std.proofs.lemmas.Option.{none-some, same_Some}
use prog.Atomic.{either}
use mathlib.Core.Option.{some, some-injective}
use lib.ListN.{get_elem?}
use Rattle.atomic_table.specs.Table.{Me, Act, Step, step, keeps, stepped, Allows, Valid, carried_after}
use Rattle.atomic_table.proofs.Lists.{set_again}
use Rattle.gomp_types.specs.declared.shape.Shape.{Shape}
use Rattle.gomp_events.specs.declared.event.Event.{Event}
use Rattle.gomp_events.specs.declared.event.Event.TheVariants.{Enter}
use Rattle.gomp_events.specs.Events.{shares_entered, shape_at, has_room}
use Rattle.gomp_events.specs.Seen.{seen_of}
use Rattle.gomp_types.proofs.Booleans.{is_equal, same_number, which_branch, not_both}
use Rattle.gomp_shares.specs.Calls.{CanOpen}
use Rattle.gomp_gate.specs.Gates.{opening_word, open_word, is_free_for, is_bare_single}
use Rattle.gomp_gate.specs.Shapes.{shape_word}
use Rattle.gomp_slots.specs.declared.view.TeamSize.{TeamSize}
use Rattle.gomp_slots.specs.declared.view.View.{View}
use Rattle.gomp_slots.specs.Words.{gate_at, BusySlot, is_busy}
use Rattle.gomp_slots.specs.Rule.{FitsWords, IsTeam, IsOpening, stands_for, Knows, AreSeats, IsRing, IsKept}
use Rattle.gomp_slots.specs.Premises.{IsBeforeShare}
use Rattle.gomp_slots.specs.Calls.{TriesSlot, ComparesWord, Publishes}
use Rattle.gomp_slots.specs.Plays.{TakeSlotStep, StoreStep, CompareStep, PublishStep}
use Rattle.gomp_slots.proofs.History.{entered_shape}
use Rattle.gomp_slots.proofs.SlotShares.{none_not_some, MayTakeSlot, free_may_take}
use Rattle.gomp_slots.proofs.Tables.{table_take, table_store, table_equal, table_publish}
use Rattle.gomp_slots.proofs.SeatViews.{seats_set, knows_more, knows_else}
use Rattle.gomp_slots.proofs.WordSteps.{seat_sees, written_again, ring_again, ring_of_size, kept_still}
use Rattle.gomp_slots.proofs.EnterSteps.{entered_same, alone_gate, entry_rule}

-- nobody opens another share while a member's next one may be opened
nobody_opens : (members m i : ℕ) (h : List Event) (busy : Option BusySlot) → IsTeam members h → IsOpening members h busy → shares_entered m h ≡ i → MayTakeSlot members i h busy → (o : Option BusySlot) → busy ≡ o → o ≡ None
nobody_opens members m i h busy team opening number may None e = refl
nobody_opens members m i h busy team opening number may (Some b) e =
    elim (cases_lt b.share i) [
      | inl lt ↦
          let there = entered_shape members m b.share h team.rule (omega arith) in
          absurd (none_not_some (shape_at b.share h) there.0 (opening.fresh b e) there.1)
      | inr ge ↦ elim (cases_lt i b.share) [
        | inl gt ↦ let there = opening.reached b e i gt in absurd (none_not_some (shape_at i h) there.0 may.none there.1)
        | inr le ↦
            let same : b.share ≡ i = omega arith in
            let on : is_busy (Some b) i ≡ true = rw same (same_number i) in
            absurd (not_both _ on (ap (λ (o : Option BusySlot). is_busy o i) (sym e) ∙ may.idle))
      ]
    ]

pub took_ring : (members id m i : ℕ) (v : View) (shape : Shape) (words : List ℕ) (views : List View) (h : List Event) (busy : Option BusySlot) → IsRing members words views h busy → get_elem? views id ≡ some v → shares_entered m h ≡ i → MayTakeSlot members i h busy →
    IsRing members (set words (gate_at i) (opening_word i)) (set views id (record v { share = i; opening = Some shape; stored = 0; found = None })) h (Some (record { id = id; share = i; shape = shape; stored = 0 }))
took_ring members id m i v shape words views h busy ring at number may =
    let idle : busy ≡ None = nobody_opens members m i h busy ring.team ring.opening number may busy refl in
    let b : BusySlot = record { id = id; share = i; shape = shape; stored = 0 } in
    let w : View = record v { share = i; opening = Some shape; stored = 0; found = None } in
    let opening : IsOpening members h (Some b) = record {
      fresh = λ c e. subst (λ (x : BusySlot). shape_at x.share h ≡ None) (same_Some b c e) may.none;
      room = λ c e. subst (λ (x : BusySlot). has_room members x.share h ≡ true) (same_Some b c e) may.room;
      few = λ c e. let s : 0 ≡ c.stored = ap (λ (x : BusySlot). x.stored) (same_Some b c e) in omega arith;
      reached = λ c e j lt. let s : i ≡ c.share = ap (λ (x : BusySlot). x.share) (same_Some b c e) in entered_shape members m j h ring.team.rule (omega arith);
    } in record {
      team = ring.team;
      table = table_take members b words h busy ring.team ring.table idle opening refl;
      opening = opening;
      seats = seats_set id views v w h h busy (Some b) ring.seats at (record {
        mine = refl;
        alone = refl;
        knows = let k = ring.seats.knows id v at in record { own = k.own; all = k.all };
        others = λ j u at_j differ. ring.seats.knows j u at_j;
        shapes = λ j s e. e;
        found = λ s o. absurd (none-some s o);
        opener = λ s o. ap (λ (x : Shape). Some (record { id = id; share = i; shape = x; stored = 0 })) (same_Some shape s o);
        other_opener = λ j u s at_j differ o. absurd (none_not_some busy (record { id = j; share = u.share; shape = s; stored = u.stored }) idle (ring.seats.opener j u s at_j o));
        opens = λ c e. inl (ap (λ (x : BusySlot). x.id) (sym (same_Some b c e)), ap (λ (x : BusySlot). Some x.shape) (same_Some b c e));
      });
    }

pub take_slot_allowed : (members id m i word slots : ℕ) (me : Me Shape View) (team : TeamSize) (shape : Shape) → team.members ≡ members → IsBeforeShare members m i me.0 → me.0.opening ≡ None → is_free_for members i word ≡ true →
    Allows (IsKept team) slots id me (gate_at i) (λ n. either (n == word) (opening_word i) n) (TakeSlotStep members i (step slots (gate_at i) word (opening_word i) (some shape)) me)
take_slot_allowed members id m i word slots me team shape same b idle is_free s kept homes at bound =
    let ring : IsRing members s.words s.views kept.events kept.busy = ring_of_size members team s.words s.views kept.events kept.busy same kept.ring in
    let mine : Knows me.0 kept.events = ring.seats.knows id me.0 at in
    let number : shares_entered m kept.events ≡ i = entered_same members m i me.0 kept.events mine b in
    by_found ring mine number (slice_index s.words (gate_at i) == word) refl
  where
    by_found : IsRing members s.words s.views kept.events kept.busy → Knows me.0 kept.events → shares_entered m kept.events ≡ i → (c : Bool) → (slice_index s.words (gate_at i) == word) ≡ c →
        (w : View) × (a : Act Shape) × Valid s.homes me.1 a × IsKept team (stepped s (gate_at i) (either (slice_index s.words (gate_at i) == word) (opening_word i) (slice_index s.words (gate_at i))) id me.1 w a)
        × TakeSlotStep members i (step slots (gate_at i) word (opening_word i) (some shape)) me (slice_index s.words (gate_at i)) (w, carried_after me.1 a)
    by_found ring mine number true e =
        let is : slice_index s.words (gate_at i) ≡ word = is_equal _ _ e in
        let may = free_may_take members m i s.words kept.events kept.busy ring.team ring.table ring.opening b.member number (subst (λ (n : ℕ). is_free_for members i n ≡ true) (sym is) is_free) in
        let w : View = record me.0 { share = i; opening = Some shape; stored = 0; found = None } in (
          w,
          keeps,
          tt,
          record {
            events = kept.events;
            busy = Some (record { id = id; share = i; shape = shape; stored = 0 });
            ring = ring_again members team (set s.words (gate_at i) (opening_word i)) (set s.words (gate_at i) (either (slice_index s.words (gate_at i) == word) (opening_word i) (slice_index s.words (gate_at i)))) (set s.views id w) (set s.views id w) kept.events (Some (record { id = id; share = i; shape = shape; stored = 0 })) same
                (ap (λ (c : Bool). set s.words (gate_at i) (either c (opening_word i) (slice_index s.words (gate_at i)))) e) refl (took_ring members id m i me.0 shape s.words s.views kept.events kept.busy ring at number may);
          },
          (
            λ said is_said. subst (λ (x : Shape). TriesSlot (record { members = members; i = i }) word x me.0 (slice_index s.words (gate_at i)) w) (some-injective shape said is_said)
                (record { won = λ h. refl; lost = λ h. absurd (not_both _ e h); alone = alone_gate members id m i me.0 s.words s.views kept.events kept.busy ring at idle mine b.member number }),
            refl,
          ),
        )
    by_found ring mine number false e = (
      me.0,
      keeps,
      tt,
      record {
        events = kept.events;
        busy = kept.busy;
        ring = ring_again members team s.words (set s.words (gate_at i) (either (slice_index s.words (gate_at i) == word) (opening_word i) (slice_index s.words (gate_at i)))) s.views (set s.views id me.0) kept.events kept.busy same
            (ap (λ (c : Bool). set s.words (gate_at i) (either c (opening_word i) (slice_index s.words (gate_at i)))) e ∙ written_again s.words (gate_at i)) (set_again s.views id me.0 at) ring;
      },
      (λ said is_said. record { won = λ h. absurd (not_both _ h e); lost = λ h. refl; alone = alone_gate members id m i me.0 s.words s.views kept.events kept.busy ring at idle mine b.member number }, refl),
    )

-- Storing

more_opening : (members : ℕ) (h : List Event) (busy : Option BusySlot) (b c : BusySlot) → IsOpening members h busy → busy ≡ Some b → c ≡ record b { stored = b.stored + 1 } → b.stored < 5 → IsOpening members h (Some c)
more_opening members h busy b c opening is next few =
    let number : b.share ≡ c.share = sym (ap (λ (x : BusySlot). x.share) next) in
    let more : c.stored ≡ b.stored + 1 = ap (λ (x : BusySlot). x.stored) next in record {
      fresh = λ d e. subst (λ (x : BusySlot). shape_at x.share h ≡ None) (same_Some c d e) (subst (λ (n : ℕ). shape_at n h ≡ None) number (opening.fresh b is));
      room = λ d e. subst (λ (x : BusySlot). has_room members x.share h ≡ true) (same_Some c d e) (subst (λ (n : ℕ). has_room members n h ≡ true) number (opening.room b is));
      few = λ d e. let s : c.stored ≡ d.stored = ap (λ (x : BusySlot). x.stored) (same_Some c d e) in omega arith;
      reached = λ d e j lt. let s : c.share ≡ d.share = ap (λ (x : BusySlot). x.share) (same_Some c d e) in opening.reached b is j (omega arith);
    }

more_seats : (id : ℕ) (v : View) (shape : Shape) (views : List View) (h : List Event) (busy : Option BusySlot) → AreSeats views h busy → get_elem? views id ≡ some v → v.opening ≡ Some shape →
    AreSeats (set views id (record v { stored = v.stored + 1 })) h (Some (record { id = id; share = v.share; shape = shape; stored = v.stored + 1 }))
more_seats id v shape views h busy seats at opening =
    let b : BusySlot = record { id = id; share = v.share; shape = shape; stored = v.stored } in
    let c : BusySlot = record { id = id; share = v.share; shape = shape; stored = v.stored + 1 } in
    let is : busy ≡ Some b = seats.opener id v shape at opening in
    seats_set id views v (record v { stored = v.stored + 1 }) h h busy (Some c) seats at (record {
      mine = refl;
      alone = refl;
      knows = let k = seats.knows id v at in record { own = k.own; all = k.all };
      others = λ j u at_j differ. seats.knows j u at_j;
      shapes = λ j s e. e;
      found = λ s o. seats.found id v s at o;
      opener = λ s o. ap (λ (x : Shape). Some (record { id = id; share = v.share; shape = x; stored = v.stored + 1 })) (same_Some shape s (sym opening ∙ o));
      other_opener = λ j u s at_j differ o. absurd (differ (sym (ap (λ (x : BusySlot). x.id) (same_Some b (record { id = j; share = u.share; shape = s; stored = u.stored }) (sym is ∙ seats.opener j u s at_j o)))));
      opens = λ d e. inl (ap (λ (x : BusySlot). x.id) (sym (same_Some c d e)), opening ∙ ap (λ (x : BusySlot). Some x.shape) (same_Some c d e));
    })

-- the word is stored
pub store_allowed : (members id w x slots : ℕ) (me : Me Shape View) (team : TeamSize) (shape : Shape) (st : Step Shape) → team.members ≡ members → me.0.opening ≡ Some shape → me.0.stored < 5 → w ≡ gate_at me.0.share + 1 + me.0.stored → x ≡ shape_word me.0.stored shape →
    Allows (IsKept team) slots id me w (λ _. x) (λ _. StoreStep st me x)
store_allowed members id w x slots me team shape st same opening few w_is x_is s kept homes at bound =
    let v : View = me.0 in
    let h : List Event = kept.events in
    let ring : IsRing members s.words s.views h kept.busy = ring_of_size members team s.words s.views h kept.busy same kept.ring in
    let b : BusySlot = record { id = id; share = v.share; shape = shape; stored = v.stored } in
    let c : BusySlot = record { id = id; share = v.share; shape = shape; stored = v.stored + 1 } in
    let is : kept.busy ≡ Some b = ring.seats.opener id v shape at opening in
    let u : View = record v { stored = v.stored + 1 } in (
      u,
      keeps,
      tt,
      record {
        events = h;
        busy = Some c;
        ring = ring_again members team (set s.words (gate_at v.share + 1 + v.stored) (shape_word v.stored shape)) (set s.words w x) (set s.views id u) (set s.views id u) h (Some c) same
            (ap (λ (n : ℕ). set s.words n x) w_is ∙ ap (set s.words (gate_at v.share + 1 + v.stored)) x_is) refl (record {
              team = ring.team;
              table = table_store members b c s.words h kept.busy ring.team ring.table ring.opening is few refl;
              opening = more_opening members h kept.busy b c ring.opening is refl few;
              seats = more_seats id v shape s.views h kept.busy ring.seats at opening;
            });
      },
      (refl, refl),
    )

-- or found equal
pub compare_allowed : (members id w slots : ℕ) (me : Me Shape View) (team : TeamSize) (shape : Shape) (st : Step Shape) → team.members ≡ members → me.0.opening ≡ Some shape → me.0.stored < 5 → w ≡ gate_at me.0.share + 1 + me.0.stored →
    Allows (IsKept team) slots id me w (λ n. n) (CompareStep st me)
compare_allowed members id w slots me team shape st same opening few w_is s kept homes at bound =
    by_found (ring_of_size members team s.words s.views kept.events kept.busy same kept.ring) (slice_index s.words w == shape_word me.0.stored shape) refl
  where
    said_of : (u : View) → ComparesWord shape me.0 (slice_index s.words w) u → (other : Shape) → me.0.opening ≡ Some other → ComparesWord other me.0 (slice_index s.words w) u
    said_of u t other is = subst (λ (x : Shape). ComparesWord x me.0 (slice_index s.words w) u) (same_Some shape other (sym opening ∙ is)) t

    by_found : IsRing members s.words s.views kept.events kept.busy → (c : Bool) → (slice_index s.words w == shape_word me.0.stored shape) ≡ c →
        (u : View) × (a : Act Shape) × Valid s.homes me.1 a × IsKept team (stepped s w (slice_index s.words w) id me.1 u a) × CompareStep st me (slice_index s.words w) (u, carried_after me.1 a)
    by_found ring true e =
        let v : View = me.0 in
        let b : BusySlot = record { id = id; share = v.share; shape = shape; stored = v.stored } in
        let c : BusySlot = record { id = id; share = v.share; shape = shape; stored = v.stored + 1 } in
        let is : kept.busy ≡ Some b = ring.seats.opener id v shape at opening in
        let u : View = record v { stored = v.stored + 1 } in (
          u,
          keeps,
          tt,
          record {
            events = kept.events;
            busy = Some c;
            ring = ring_again members team s.words (set s.words w (slice_index s.words w)) (set s.views id u) (set s.views id u) kept.events (Some c) same (written_again s.words w) refl (record {
              team = ring.team;
              table = table_equal members b c s.words kept.events kept.busy ring.table is refl (ap (slice_index s.words) (sym w_is) ∙ is_equal _ _ e);
              opening = more_opening members kept.events kept.busy b c ring.opening is refl few;
              seats = more_seats id v shape s.views kept.events kept.busy ring.seats at opening;
            });
          },
          (said_of u (record { equal = λ h. refl; unequal = λ h. absurd (not_both _ e h) }), refl),
        )
    by_found ring false e = (
      me.0,
      keeps,
      tt,
      kept_still id w me.1 me.0 team s kept at,
      (said_of me.0 (record { equal = λ h. absurd (not_both _ h e); unequal = λ h. refl }), refl),
    )

-- Publishing

pub publish_ring : (members id m : ℕ) (v : View) (shape : Shape) (words : List ℕ) (views : List View) (h : List Event) (busy : Option BusySlot) → IsRing members words views h busy → get_elem? views id ≡ some v → v.opening ≡ Some shape → (is_bare_single shape ≡ false → v.stored ≡ 5) → stands_for v m ≡ true → shares_entered m h ≡ v.share → CanOpen members m shape (seen_of m h) → FitsWords shape →
    IsRing members (set words (gate_at v.share) (open_word (is_bare_single shape) v.share)) (set views id (record v { did = Enter v.share m shape ∷ v.did; opening = None; found = None })) (Enter v.share m shape ∷ h) None
publish_ring members id m v shape words views h busy ring at opening full stands number can is_opened =
    let b : BusySlot = record { id = id; share = v.share; shape = shape; stored = v.stored } in
    let is : busy ≡ Some b = ring.seats.opener id v shape at opening in
    let w : View = record v { did = Enter v.share m shape ∷ v.did; opening = None; found = None } in
    let fresh : shape_at v.share h ≡ None = ring.opening.fresh b is in
    let rule = entry_rule members m v.share shape h ring.team.some_member can number (λ other there. absurd (none_not_some (shape_at v.share h) other fresh there)) (ring.opening.room b is) in record {
      team = record {
        some_member = ring.team.some_member;
        few_members = ring.team.few_members;
        rule = (rule, ring.team.rule);
        once = (tt, ring.team.once);
        clean = ap (λ (rest : List Event). Enter v.share m shape ∷ rest) ring.team.clean;
        shapes = λ i s e. elim (which_branch (v.share == i) (Some shape) (shape_at i h) (Some s) e) [
          | inl here ↦ subst FitsWords (same_Some shape s here.1) is_opened
          | inr there ↦ ring.team.shapes i s there.1
        ];
      };
      table = table_publish members m b words h busy ring.team ring.table ring.opening is full;
      opening = record {
        fresh = λ c e. absurd (none-some c e);
        room = λ c e. absurd (none-some c e);
        few = λ c e. absurd (none-some c e);
        reached = λ c e. absurd (none-some c e);
      };
      seats = seats_set id views v w h (Enter v.share m shape ∷ h) busy None ring.seats at (record {
        mine = refl;
        alone = refl;
        knows = knows_more m (Enter v.share m shape) v w h (ring.seats.knows id v at) refl refl refl;
        others = knows_else id m (Enter v.share m shape) views v h busy ring.seats at stands refl;
        shapes = λ i s e. elim (cases_Bool (v.share == i)) [
          | inl here ↦ absurd (none_not_some (shape_at v.share h) s fresh (ap (λ (n : ℕ). shape_at n h) (is_equal v.share i here) ∙ e))
          | inr there ↦ rw there e
        ];
        found = λ s o. absurd (none-some s o);
        opener = λ s o. absurd (none-some s o);
        other_opener = λ j u s at_j differ o. absurd (differ (sym (ap (λ (x : BusySlot). x.id) (same_Some b (record { id = j; share = u.share; shape = s; stored = u.stored }) (sym is ∙ ring.seats.opener j u s at_j o)))));
        opens = λ c e. absurd (none-some c e);
      });
    }

pub publish_allowed : (members id m i slots : ℕ) (me : Me Shape View) (team : TeamSize) (shape : Shape) (st : Step Shape) → team.members ≡ members → IsBeforeShare members m i me.0 → me.0.opening ≡ Some shape → me.0.share ≡ i → (is_bare_single shape ≡ false → me.0.stored ≡ 5) → CanOpen members m shape (seen_of m me.0.did) → FitsWords shape →
    Allows (IsKept team) slots id me (gate_at i) (λ _. open_word (is_bare_single shape) i) (λ _. PublishStep members m i st me (open_word (is_bare_single shape) i))
publish_allowed members id m i slots me team shape st same b opening number_is full can is_opened s kept homes at bound =
    let v : View = me.0 in
    let h : List Event = kept.events in
    let ring : IsRing members s.words s.views h kept.busy = ring_of_size members team s.words s.views h kept.busy same kept.ring in
    let mine : Knows v h = ring.seats.knows id v at in
    let number : shares_entered m h ≡ i = entered_same members m i v h mine b in
    let w : View = record v { did = Enter i m shape ∷ v.did; opening = None; found = None } in
    let next0 = publish_ring members id m v shape s.words s.views h kept.busy ring at opening full b.stands (number ∙ sym number_is) (subst (CanOpen members m shape) (seat_sees m v h mine b.stands) can) is_opened in
    let next : IsRing members (set s.words (gate_at i) (open_word (is_bare_single shape) i)) (set s.views id w) (Enter i m shape ∷ h) None =
    subst (λ (n : ℕ). IsRing members (set s.words (gate_at n) (open_word (is_bare_single shape) n)) (set s.views id (record v { did = Enter n m shape ∷ v.did; opening = None; found = None })) (Enter n m shape ∷ h) None) number_is next0 in (
      w,
      keeps,
      tt,
      record { events = Enter i m shape ∷ h; busy = None; ring = ring_again members team (set s.words (gate_at i) (open_word (is_bare_single shape) i)) (set s.words (gate_at i) (open_word (is_bare_single shape) i)) (set s.views id w) (set s.views id w) (Enter i m shape ∷ h) None same refl refl next },
      (λ other is. subst (λ (x : Shape). Publishes members m i x v w) (same_Some shape other (sym opening ∙ is)) (record { events = h; knows = mine; rule = next.team.rule; after = refl }), refl),
    )
