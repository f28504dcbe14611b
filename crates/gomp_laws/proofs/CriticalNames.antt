-- The rows of the calls on critical names.
use Rattle.std.proofs.Common.{◌≡◌, ℕ, true, List, Option, Some, None, refl, sym, ◌∙◌, inl, inr}
use Rattle.std.specs.Prelude.{not, is_some}
use Rattle.std.proofs.lemmas.Bool.{cases_Bool}
use Rattle.gomp_types.specs.declared.key.Key.TheVariants.{Critical}
use Rattle.gomp_types.specs.declared.lock.Held.{Held}
use Rattle.gomp_types.specs.declared.reply.Reply.{Reply}
use Rattle.gomp_types.specs.declared.reply.Reply.TheVariants.{Finished, Wait, Count}
use Rattle.gomp_types.specs.declared.task.Owner.{Owner}
use Rattle.gomp_types.proofs.Booleans.{not_false}
use Rattle.gomp_locks.specs.Book.{held_by, owned_by}
use Rattle.gomp_locks.specs.CriticalNames.{EntersCritical}
use Rattle.gomp_locks.specs.Holders.{asker, holder, holding_owner}
use Rattle.gomp_model.specs.CriticalNames.{is_held, reply_frees, critical_start_row, critical_end_row}
use Rattle.gomp_model.proofs.Admitted.{by_team_fails}
use Rattle.gomp_laws.proofs.Sound.{IsSound}
use Rattle.gomp_laws.proofs.HeldRows.{IsBookReply, finished_is_one, asked_first, held_row, held_inside, held_given, freed_given, hold_keeps, free_keeps, unheld_by_member, held_row_sound}

one_entry : (found : Option Owner) (a b : Reply) → EntersCritical found a → EntersCritical found b → a ≡ b
one_entry None Finished Finished x y = refl
one_entry None Finished _ x y = absurd y
one_entry None _ b x y = absurd x
one_entry (Some other) Wait Wait x y = refl
one_entry (Some other) Wait _ x y = absurd y
one_entry (Some other) _ b x y = absurd x

entry_by_book : (found : Option Owner) (reply : Reply) → EntersCritical found reply → IsBookReply reply
entry_by_book None Finished may = tt
entry_by_book None _ may = absurd may
entry_by_book (Some other) Wait may = tt
entry_by_book (Some other) _ may = absurd may

some_entry : (found : Option Owner) → (reply : Reply) × EntersCritical found reply
some_entry None = (Finished, tt)
some_entry (Some other) = (Wait, tt)

-- a name that is entered is free
entry_is_free : (held : Option Held) (reply : Reply) → EntersCritical (holding_owner held) reply → is_held reply ≡ true → not (is_some held) ≡ true
entry_is_free None reply may is = refl
entry_is_free (Some held) Wait may is = absurd (cc)
entry_is_free (Some held) _ may is = absurd may

-- one that is waited for is held
entry_waits : (found : Option Held) → EntersCritical (holding_owner found) Wait → (held : Held) × (found ≡ Some held)
entry_waits None may = absurd may
entry_waits (Some held) may = (held, refl)

entry_counts_none : {P : Type 0} (found : Option Owner) (count : ℕ) → EntersCritical found (Count count) → P
entry_counts_none None count may = absurd may
entry_counts_none (Some other) count may = absurd may

pub critical_start_sound : (name : List ℕ) → IsSound (critical_start_row name)
critical_start_sound name = held_row_sound (Critical name) (critical_start_row name) (record {
  decided = λ m p a b x y. one_entry (holding_owner (holder (Critical name) p.events)) a b x y;
  by_book = λ m p reply may. entry_by_book (holding_owner (holder (Critical name) p.events)) reply may;
  answered = λ repeated m p ready all. some_entry (holding_owner (holder (Critical name) p.events));
  given = λ m p reply. held_given (Critical name) m reply p.events;
  keep = λ repeated m p reply ready may all.
      hold_keeps p.terms.members m (Critical name) (is_held reply) p.events ready.member (ready.away refl (held_inside (held_row (Critical name) (critical_start_row name)) repeated m p (Critical name) ready refl refl)) (entry_is_free (holder (Critical name) p.events) reply may) all;
  apart = λ repeated m p ready may.
      elim (cases_Bool repeated) [
        | inl e ↦ ready.admitted.book.lasting e (Critical name) refl
        | inr e ↦ unheld_by_member (asker m p.events) (holder (Critical name) p.events) (by_team_fails ready.admitted.book e).1.0
      ];
  bound = λ m p may. refl;
  waits_for = λ m p may. entry_waits (holder (Critical name) p.events) may;
  tells_count = λ repeated m count p ready may. entry_counts_none (holding_owner (holder (Critical name) p.events)) count may;
  no_memory = λ m p. (refl, refl);
})

-- who owns a name holds it
owner_holds : (owner : Owner) (held : Option Held) → owned_by owner (holding_owner held) ≡ true → held_by owner held ≡ true
owner_holds owner None owned = owned
owner_holds owner (Some held) owned = owned

pub critical_end_sound : (name : List ℕ) → IsSound (critical_end_row name)
critical_end_sound name = held_row_sound (Critical name) (critical_end_row name) (record {
  decided = λ m p a b x y. x ∙ sym y;
  by_book = λ m p reply may. finished_is_one reply may;
  answered = λ repeated m p ready all. (Finished, refl);
  given = λ m p reply. freed_given (Critical name) m reply p.events;
  keep = λ repeated m p reply ready may all.
      let owned = not_false (owned_by (asker m p.events) (holding_owner (holder (Critical name) p.events))) (asked_first (critical_end_row name) repeated m p (λ q given may. finished_is_one given may) (λ q waits. cc) ready).1.0 in
      free_keeps p.terms.members m (Critical name) (reply_frees reply) p.events (owner_holds (asker m p.events) (holder (Critical name) p.events) owned) all;
  apart = λ repeated m p ready may. absurd (cc);
  bound = λ m p may. absurd (cc);
  waits_for = λ m p may. absurd (cc);
  tells_count = λ repeated m count p ready may. absurd (cc);
  no_memory = λ m p. (refl, refl);
})
