-- The rows of the calls on ordered parts.
use Rattle.std.proofs.Common.{◌≡◌, ℕ, ◌<◌, true, false, List, [], ◌++◌, Option, Some, None, refl, sym, ◌∙◌, inl, inr}
use Rattle.std.specs.Prelude.{ℤ, not}
use Rattle.std.proofs.lemmas.Bool.{cases_Bool}
use Rattle.gomp_types.specs.declared.reply.Reply.{Reply}
use Rattle.gomp_types.specs.declared.reply.Reply.TheVariants.{Chunk, Finished, Wait, Cancelled, Created, Run, TaskDone, Dropped, Refused}
use Rattle.gomp_types.specs.declared.shape.Shape.{Shape}
use Rattle.gomp_events.specs.declared.event.Event.{Event}
use Rattle.gomp_events.specs.Events.{in_kind, share_number, open_share, last_piece, next_part, in_part}
use Rattle.gomp_events.specs.Ordered.{is_ordered, comes_next, has_turn}
use Rattle.gomp_events.specs.Laws.{Always}
use Rattle.gomp_laws.specs.Rules.{TeamRule}
use Rattle.gomp_shares.specs.Rules.{MayEndPart}
use Rattle.gomp_types.specs.Shapes.{is_loop}
use Rattle.gomp_types.specs.Deals.{schedule}
use Rattle.gomp_types.proofs.Booleans.{not_false}
use Rattle.gomp_shares.proofs.OrWaits.{each_answer_so, may_be_answered, may_not_waits, one_answer_or_wait, part_is_begun}
use Rattle.gomp_shares.proofs.PartsKeep.{value_in_rest, parts_in_loop}
use Rattle.gomp_laws.proofs.TeamShares.{share_rules}
use Rattle.gomp_shares.specs.OrderedParts.{BeginsPart, part_given, part_tests, part_end_tests, part_end_events}
use Rattle.gomp_model.specs.Row.{Row, outside_row}
use Rattle.gomp_model.specs.OrderedParts.{ordered_start_row, ordered_end_row}
use Rattle.gomp_model.proofs.Admitted.{by_place_fails}
use Rattle.gomp_laws.proofs.AtOnce.{at_once_sound}
use Rattle.gomp_laws.proofs.Cancels.{waits_uncancelled_sound}
use Rattle.gomp_laws.proofs.Starts.{IsShareReply}
use Rattle.gomp_laws.proofs.Sound.{AreGiven, IsSound, quiet, outside_lasts}

one_part : (members m : ℕ) (own : Option (ℕ × Shape)) (a b : Reply) (h : List Event) → BeginsPart members m own a h → BeginsPart members m own b h → a ≡ b
one_part members m None a b h x y = absurd x
one_part members m (Some share) a b h x y = one_answer_or_wait (has_turn members share m h) (λ given. given ≡ Finished) a b (λ one other. one ∙ sym other) x y

part_by_share : (members m : ℕ) (own : Option (ℕ × Shape)) (reply : Reply) (h : List Event) → BeginsPart members m own reply h → IsShareReply reply
part_by_share members m None reply h x = absurd x
part_by_share members m (Some share) reply h x = each_answer_so IsShareReply (has_turn members share m h) (λ given. given ≡ Finished) reply tt (λ done. rw done tt) x

part_counts : (members m : ℕ) (own : Option (ℕ × Shape)) (first : ℤ) (count : ℕ) (h : List Event) → BeginsPart members m own (Chunk first count) h → 0 < count
part_counts members m None first count h may = absurd may
part_counts members m (Some share) first count h may = let done = (part_is_begun members m share (Chunk first count) h (λ is. absurd (cc)) may).1 in absurd (cc)

part_some : (members m : ℕ) (h : List Event) (own : Option (ℕ × Shape)) → not (is_ordered own) ≡ false → (reply : Reply) × BeginsPart members m own reply h
part_some members m h None is = absurd (cc)
part_some members m h (Some share) is = elim (cases_Bool (has_turn members share m h)) [ inl go ↦ (Finished, may_be_answered (has_turn members share m h) (λ given. given ≡ Finished) Finished go refl) | inr wait ↦ (Wait, may_not_waits (has_turn members share m h) (λ given. given ≡ Finished) wait) ]

part_own : (own : Option (ℕ × Shape)) (m : ℕ) (value : ℤ) (reply : Reply) → AreGiven quiet m reply (part_given own m value reply)
part_own None m value reply = tt
part_own (Some share) m value Finished = (refl, tt)
part_own (Some share) m value _ = tt

-- the part that comes next may begin in its turn
part_keeps : (members m : ℕ) (value : ℤ) (reply : Reply) (h : List Event) (own : Option (ℕ × Shape)) → open_share m h ≡ own → in_part m h ≡ false → not (is_ordered own) ≡ false → not (comes_next own (last_piece m h) (next_part m h) value) ≡ false →
    BeginsPart members m own reply h → Always (TeamRule members) h → Always (TeamRule members) (part_given own m value reply ++ h)
part_keeps members m value reply h None at apart ordered next may all = all
part_keeps members m value Finished h (Some share) at apart ordered next may all =
    let rest = value_in_rest share.1 (last_piece m h) (next_part m h) value (not_false (comes_next (Some share) (last_piece m h) (next_part m h) value) next) in (
      record {
        shape = share.1;
        inside = at;
        ordered = not_false share.1.ordered ordered;
        apart = apart;
        next = (part_is_begun members m share Finished h (λ is. absurd (cc)) may).0;
        low = rest.low;
        high = rest.high;
        piece = rest.piece;
        from = rest.from;
        before = rest.before;
        after = rest.past;
      },
      all,
    )
part_keeps members m value _ h (Some share) at apart ordered next may all = all

part_still : (own : Option (ℕ × Shape)) (m : ℕ) (value : ℤ) → part_given own m value Wait ≡ []
part_still None m value = refl
part_still (Some share) m value = refl

-- the row without what a cancelled region changes
abbrev plain_part_row : ℤ → Row
plain_part_row value = record outside_row {
  by_place = λ limits seen. part_tests value seen;
  stays = true;
  may_reply = λ m p reply. BeginsPart p.terms.members m (open_share m p.events) reply p.events;
  gives = λ m p reply. part_given (open_share m p.events) m value reply;
}

plain_part_sound : (value : ℤ) → IsSound (plain_part_row value)
plain_part_sound value = record {
  decided = λ m p a b x y. inl (one_part p.terms.members m (open_share m p.events) a b p.events x y);
  accepts = λ m p refusal x. part_by_share p.terms.members m (open_share m p.events) (Refused refusal) p.events x;
  answered = λ repeated m p ready all. part_some p.terms.members m p.events (open_share m p.events) (by_place_fails ready.admitted.parts refl refl).1.1.0;
  counts = λ repeated m p first count ready all may. part_counts p.terms.members m (open_share m p.events) first count p.events may;
  begins_own = λ m p. tt;
  gives_own = λ m p reply. part_own (open_share m p.events) m value reply;
  begins_keep = λ m p ready all. all;
  gives_keep = λ repeated m p reply ready may all.
      let fail = by_place_fails ready.admitted.parts refl refl in part_keeps p.terms.members m value reply p.events (open_share m p.events) refl fail.1.0 fail.1.1.0 fail.1.1.1.0 may all;
  still = λ stays m p. (refl, part_still (open_share m p.events) m value);
  placed = λ stays m h. refl;
  outside = λ arrives m p fail. absurd (cc);
  tells = λ arrives m p reply may. absurd (cc);
  one_pass = λ arrives m p. absurd (cc);
  arrives_there = λ arrives m p. absurd (cc);
  waits_quietly = λ arrives m p. absurd (cc);
  lasts = λ repeated m p ready all may. outside_lasts ready refl (λ arrives fail. fail.0) may;
  waits_for = λ key m p holds may. absurd (cc);
  tells_count = λ key repeated m count p holds ready all may. absurd (cc);
  runs = λ m p task code arg own may. absurd (part_by_share p.terms.members m (open_share m p.events) (Run task code arg own) p.events may);
  ends = λ m p task waiting may. absurd (part_by_share p.terms.members m (open_share m p.events) (TaskDone task waiting) p.events may);
  created = λ repeated m p task ready may. absurd (part_by_share p.terms.members m (open_share m p.events) (Created task) p.events may);
  cancelled = λ m p may. absurd (part_by_share p.terms.members m (open_share m p.events) Cancelled p.events may);
  dropped = λ repeated m p ready all may. absurd (part_by_share p.terms.members m (open_share m p.events) Dropped p.events may);
  allowed = λ cancels m p. absurd (cc);
  no_memory = λ m p. (refl, refl, refl, refl, λ repeated. refl);
  words_keep = λ puts repeated m p reply ready may all. absurd (cc);
}

pub ordered_start_sound : (value : ℤ) → IsSound (ordered_start_row value)
ordered_start_sound value = waits_uncancelled_sound (plain_part_row value) (plain_part_sound value) (record {
  silent = refl;
  holds = refl;
  harmless = refl;
  wordless = refl;
  never = λ m p may. part_by_share p.terms.members m (open_share m p.events) Cancelled p.events may;
})

-- a part that is open may end
open_part_may_end : (m : ℕ) (h : List Event) (own : Option (ℕ × Shape)) → open_share m h ≡ own → in_kind is_loop own ≡ true → in_part m h ≡ true → MayEndPart (share_number own) m h
open_part_may_end m h None at there within = absurd (cc)
open_part_may_end m h (Some share) at there within = record { shape = share.1; inside = at; within = within }

pub ordered_end_sound : IsSound ordered_end_row
ordered_end_sound = at_once_sound false part_end_tests part_end_events (record {
  own = λ m h. (refl, tt);
  keep = λ m p ready all.
      let within = not_false (in_part m p.events) (by_place_fails ready.admitted.parts refl refl).0 in
      (open_part_may_end m p.events (open_share m p.events) refl (parts_in_loop (schedule p.terms.members) p.terms.members m p.events (share_rules p.terms.members p.events all) within) within, all);
  no_memory = λ seen. refl;
})
