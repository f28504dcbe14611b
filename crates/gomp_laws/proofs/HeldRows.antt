-- What the rows of the calls on names and locks share: who holds what, and what such a row has to show.
use Rattle.std.proofs.Common.{◌≡◌, ℕ, ◌+◌, ◌-◌, ◌<◌, Bool, true, false, List, ◌++◌, Option, Some, None, refl, sym, subst, arith, inl, inr}
use Rattle.std.specs.Prelude.{◌==◌, ◌&&◌, ◌||◌, not, nat_lt, is_some, if◌then◌else◌, slice_get}
use Rattle.std.proofs.lemmas.Bool.{cases_Bool}
use Rattle.gomp_events.specs.declared.event.Event.{Event}
use Rattle.gomp_types.specs.declared.key.Key.{Key}
use Rattle.gomp_types.specs.declared.lock.Held.{Held}
use Rattle.gomp_types.specs.declared.lock.LockKind.{LockKind}
use Rattle.gomp_types.specs.declared.reply.Reply.{Reply}
use Rattle.gomp_types.specs.declared.reply.Reply.TheVariants.{Chunk, Finished, Wait, Cancelled, Created, Run, TaskDone, Dropped, Got, Count, Refused}
use Rattle.gomp_types.specs.declared.task.Owner.{Owner}
use Rattle.gomp_events.specs.Events.{at_barrier}
use Rattle.gomp_events.specs.Laws.{Always}
use Rattle.gomp_events.specs.Tasks.{in_task}
use Rattle.gomp_events.specs.Cancels.{leaves_region, leaves_share, leaves_task}
use Rattle.gomp_types.specs.Owners.{same_owner}
use Rattle.gomp_types.proofs.Booleans.{is_equal}
use Rattle.gomp_types.proofs.LeastTests.{AllFail}
use Rattle.gomp_locks.specs.Book.{same_lock_kind, held_times, held_by, owned_by_member}
use Rattle.gomp_locks.specs.Locks.{gone_tests, times_held, held_by_another}
use Rattle.gomp_locks.specs.Holders.{asker, held_once_more, held_once_less, holder, holding_owner, held_if_kind, found_lock, key_of}
use Rattle.gomp_locks.specs.HoldRules.{can_hold, HoldRule}
use Rattle.gomp_locks.proofs.Refutations.{own_key}
use Rattle.gomp_locks.proofs.AnswerRefutations.{own_holder}
use Rattle.gomp_laws.specs.Rules.{TeamRule}
use Rattle.gomp_model.specs.Past.{Past}
use Rattle.gomp_model.specs.Row.{Row, plain_row, goes_on}
use Rattle.gomp_model.specs.CriticalNames.{is_held, reply_frees, held_once, freed_once}
use Rattle.gomp_model.proofs.Admitted.{by_team_fails, leaving_fails}
use Rattle.gomp_laws.proofs.TeamShares.{hold_rules}
use Rattle.gomp_laws.proofs.Sound.{AreGiven, IsSound, IsAdmittedMember, memoryless, only_holds}

-- What a task does not hold

-- a task does not hold what none of its member's tasks holds
pub unheld_by_member : (owner : Owner) (found : Option Held) → owned_by_member owner (holding_owner found) ≡ false → held_by owner found ≡ false
unheld_by_member owner None unowned = refl
unheld_by_member owner (Some held) unowned = by_parts (held.owner.team == owner.team) (held.owner.member == owner.member) (held.owner.task == owner.task) unowned
  where
    by_parts : (team member task : Bool) → (team && member) ≡ false → (team && (member && task)) ≡ false
    by_parts true true task e = absurd (cc)
    by_parts true false task e = refl
    by_parts false member task e = refl

-- an owner's count of what another task holds is 0
pub another_counts_none : (owner : Owner) (held : Option Held) → held_by_another owner held ≡ true → times_held owner held ≡ 0
another_counts_none owner None differ = refl
another_counts_none owner (Some held) differ = by_owner (same_owner held.owner owner) differ
  where
    by_owner : (b : Bool) → not b ≡ true → (if b then held.count else 0) ≡ 0
    by_owner true w = absurd (cc)
    by_owner false w = refl

-- Locks that are found

-- a lock that is found is held as the events say
pub found_as_held : (kind : LockKind) (entry : Option (Option LockKind)) (held other : Option Held) → held_if_kind kind entry held ≡ Some other → held ≡ other
found_as_held kind None held other at = absurd (cc)
found_as_held kind (Some None) held other at = absurd (cc)
found_as_held kind (Some (Some is)) held other at = by_kind (same_lock_kind is kind) at
  where
    by_kind : (b : Bool) → ◌≡◌ {A = Option (Option Held)} (if b then Some held else None) (Some other) → held ≡ other
    by_kind true e = cc
    by_kind false e = absurd (cc)

-- one that is not gone is found
found_unless_gone : (kind : LockKind) (entry : Option (Option LockKind)) (held : Option Held) → AllFail (gone_tests (held_if_kind kind entry held)) → held_if_kind kind entry held ≡ Some held
found_unless_gone kind None held there = absurd (let gone = there.0 in cc)
found_unless_gone kind (Some None) held there = absurd (let gone = there.0 in cc)
found_unless_gone kind (Some (Some is)) held there = by_kind (same_lock_kind is kind) there.0
  where
    by_kind : (b : Bool) → not (is_some (if b then Some held else None)) ≡ false → ◌≡◌ {A = Option (Option Held)} (if b then Some held else None) (Some held)
    by_kind true e = refl
    by_kind false e = absurd (cc)

pub lock_is_found : (kind : LockKind) (number : ℕ) (p : Past) → AllFail (gone_tests (found_lock kind number p.locks p.events)) → found_lock kind number p.locks p.events ≡ Some (holder (key_of kind number) p.events)
lock_is_found kind number p there = found_unless_gone kind (slice_get p.locks number) (holder (key_of kind number) p.events) there

-- Events

-- a call that holds its key gives that alone
pub held_given : (key : Key) (m : ℕ) (reply : Reply) (h : List Event) → AreGiven (only_holds key) m reply (held_once (is_held reply) key m h)
held_given key m Finished h = ((refl, refl, refl), tt)
held_given key m (Got true) h = ((refl, refl, refl), tt)
held_given key m (Got false) h = tt
held_given key m (Count count) h = by_count (nat_lt 0 count)
  where
    by_count : (b : Bool) → AreGiven (only_holds key) m (Count count) (held_once b key m h)
    by_count true = ((refl, refl, refl), tt)
    by_count false = tt
held_given key m _ h = tt

-- so does one that frees it
pub freed_given : (key : Key) (m : ℕ) (reply : Reply) (h : List Event) → AreGiven (only_holds key) m reply (freed_once (reply_frees reply) key m h)
freed_given key m Finished h = ((refl, refl, refl), tt)
freed_given key m (Count count) h = ((refl, refl, refl), tt)
freed_given key m _ h = tt

-- a key that may be held keeps the rule
pub hold_keeps : (members m : ℕ) (key : Key) (b : Bool) (h : List Event) → m < members → (in_task m h ≡ false → at_barrier m h ≡ false) → (b ≡ true → can_hold key (asker m h) (holder key h) ≡ true) → Always (TeamRule members) h →
    Always (TeamRule members) (held_once b key m h ++ h)
hold_keeps members m key true h member away can all = (record { holds = record { current = refl; free = can refl }; member = member; names = record { away = away } }, all)
hold_keeps members m key false h member away can all = all

-- so does one that is freed by its holder
pub free_keeps : (members m : ℕ) (key : Key) (b : Bool) (h : List Event) → held_by (asker m h) (holder key h) ≡ true → Always (TeamRule members) h → Always (TeamRule members) (freed_once b key m h ++ h)
free_keeps members m key true h held all = (record { current = refl; held = held }, all)
free_keeps members m key false h held all = all

-- Counts

-- once more
counted_more : (owner : Owner) (held : Option Held) → held_by_another owner held ≡ false → times_held owner (held_once_more owner held) ≡ times_held owner held + 1
counted_more owner None free = rw (own_holder owner) refl
counted_more owner (Some held) free = by_owner (same_owner held.owner owner) free
  where
    by_owner : (b : Bool) → not b ≡ false → (if b then held.count + 1 else 0) ≡ (if b then held.count else 0) + 1
    by_owner true w = refl
    by_owner false w = absurd (cc)

pub held_counts_more : (m : ℕ) (key : Key) (b : Bool) (h : List Event) → b ≡ true → held_by_another (asker m h) (holder key h) ≡ false → times_held (asker m h) (holder key (held_once b key m h ++ h)) ≡ times_held (asker m h) (holder key h) + 1
held_counts_more m key true h e free = rw (own_key key) (counted_more (asker m h) (holder key h) free)
held_counts_more m key false h e free = absurd (cc)

pub unheld_counts_same : (m : ℕ) (key : Key) (b : Bool) (h : List Event) → b ≡ false → times_held (asker m h) (holder key (held_once b key m h ++ h)) ≡ times_held (asker m h) (holder key h)
unheld_counts_same m key true h e = absurd (cc)
unheld_counts_same m key false h e = refl

-- and once less
counted_less : (owner : Owner) (count : ℕ) (held : Option Held) → count + 1 ≡ times_held owner held → count ≡ times_held owner (held_once_less held)
counted_less owner count None more = absurd (omega (arith, more))
counted_less owner count (Some held) more = by_owner (same_owner held.owner owner) refl more
  where
    by_count : (b : Bool) → (held.count - 1 == 0) ≡ b → same_owner held.owner owner ≡ true → count + 1 ≡ held.count → count ≡ times_held owner (held_times held.owner (held.count - 1))
    by_count true z e more = rw z (let none = is_equal (held.count - 1) 0 z in omega (arith, none, more))
    by_count false z e more = rw (z, e) (omega (arith, more))

    by_owner : (b : Bool) → same_owner held.owner owner ≡ b → count + 1 ≡ (if b then held.count else 0) → count ≡ times_held owner (held_times held.owner (held.count - 1))
    by_owner true e more = by_count (held.count - 1 == 0) refl e more
    by_owner false e more = absurd (omega (arith, more))

pub freed_counts_less : (m : ℕ) (key : Key) (count : ℕ) (h : List Event) → count + 1 ≡ times_held (asker m h) (holder key h) → count ≡ times_held (asker m h) (holder key (freed_once true key m h ++ h))
freed_counts_less m key count h more = rw (own_key key) (counted_less (asker m h) count (holder key h) more)

-- Rows

-- the row of a call that holds or frees this key, by what is its own
abbrev pub held_row : Key → Row → Row
held_row key row = record plain_row {
  by_team = row.by_team;
  missing = row.missing;
  lets_leave = row.lets_leave;
  makes = row.makes;
  holds = Some key;
  may_reply = row.may_reply;
  gives = row.gives;
  locks = row.locks;
}

-- what the book answers is neither a chunk nor a refusal, and nothing on tasks or a cancelled region
abbrev pub IsBookReply : Reply → Type 0
IsBookReply (Chunk first count) = ⊥
IsBookReply (Created task) = ⊥
IsBookReply (Run task code arg own) = ⊥
IsBookReply (TaskDone task waiting) = ⊥
IsBookReply Cancelled = ⊥
IsBookReply Dropped = ⊥
IsBookReply (Refused refusal) = ⊥
IsBookReply _ = Unit {0}

pub finished_is_one : (reply : Reply) → reply ≡ Finished → IsBookReply reply
finished_is_one reply e = subst IsBookReply (sym e) tt

-- a call that never waits does not go on
never_goes_on : (row : Row) (m : ℕ) (q : Past) (reply : Reply) → goes_on reply ≡ true → IsBookReply reply → (row.may_reply m q Wait → ⊥) → row.may_reply m q reply → ⊥
never_goes_on row m q Wait on book never may = never may
never_goes_on row m q (Run task code arg own) on book never may = book
never_goes_on row m q _ on book never may = absurd (cc)

-- and so is not repeated
pub asked_first : (row : Row) (repeated : Bool) (m : ℕ) (p : Past) → ((q : Past) (reply : Reply) → row.may_reply m q reply → IsBookReply reply) → ((q : Past) → row.may_reply m q Wait → ⊥) → IsAdmittedMember row repeated m p → AllFail (row.by_team m p)
asked_first row repeated m p by_book never ready =
    elim (cases_Bool repeated) [
      | inl e ↦ absurd (let on = ready.admitted.parts.waits e in never_goes_on row m on.0 on.1 on.2 (by_book on.0 on.1 on.3) (never on.0) on.3)
      | inr e ↦ by_team_fails ready.admitted.book e
    ]

-- a member that makes or repeats a call which lets no member that leaves make it does not leave the region
pub leaves_none : (region share task lets : Bool) → (((region || share) || task) && not lets) ≡ false → lets ≡ false → region ≡ false
leaves_none true share task true e bound = absurd (cc)
leaves_none true share task false e bound = absurd (cc)
leaves_none false share task lets e bound = refl

pub held_inside : (row : Row) (repeated : Bool) (m : ℕ) (p : Past) (key : Key) → IsAdmittedMember row repeated m p → row.holds ≡ Some key → row.lets_leave m p.events ≡ false → leaves_region m p.events ≡ false
held_inside row true m p key ready holds bound = ready.inside refl key holds
held_inside row false m p key ready holds bound = leaves_none (leaves_region m p.events) (leaves_share m p.events) (leaves_task m p.events) (row.lets_leave m p.events) (leaving_fails ready.admitted).0 bound

-- what is to be shown of such a row
pub record IsHeldRow (key : Key) (row : Row) : Type 0 where
  pub decided : (m : ℕ) (p : Past) (a b : Reply) → row.may_reply m p a → row.may_reply m p b → a ≡ b
  pub by_book : (m : ℕ) (p : Past) (reply : Reply) → row.may_reply m p reply → IsBookReply reply
  pub answered : (repeated : Bool) (m : ℕ) (p : Past) → IsAdmittedMember (held_row key row) repeated m p → Always HoldRule p.events → (reply : Reply) × row.may_reply m p reply
  pub given : (m : ℕ) (p : Past) (reply : Reply) → AreGiven (only_holds key) m reply (row.gives m p reply)
  pub keep : (repeated : Bool) (m : ℕ) (p : Past) (reply : Reply) → IsAdmittedMember (held_row key row) repeated m p → row.may_reply m p reply → Always (TeamRule p.terms.members) p.events → Always (TeamRule p.terms.members) (row.gives m p reply ++ p.events)
  -- the task waits for what it does not hold
  pub apart : (repeated : Bool) (m : ℕ) (p : Past) → IsAdmittedMember (held_row key row) repeated m p → row.may_reply m p Wait → held_by (asker m p.events) (holder key p.events) ≡ false
  -- and its member does not leave the region
  pub bound : (m : ℕ) (p : Past) → row.may_reply m p Wait → row.lets_leave m p.events ≡ false
  pub waits_for : (m : ℕ) (p : Past) → row.may_reply m p Wait → (held : Held) × (holder key p.events ≡ Some held)
  pub tells_count : (repeated : Bool) (m count : ℕ) (p : Past) → IsAdmittedMember (held_row key row) repeated m p → row.may_reply m p (Count count) → count ≡ times_held (asker m p.events) (holder key (row.gives m p (Count count) ++ p.events))
  pub no_memory : (m : ℕ) (p : Past) → (memoryless (row.by_team m p) ≡ true) × (memoryless (row.missing m p) ≡ true)

same_some : (key other : Key) → ◌≡◌ {A = Option Key} (Some key) (Some other) → key ≡ other
same_some key other e = cc

pub held_row_sound : (key : Key) (row : Row) → IsHeldRow key row → IsSound (held_row key row)
held_row_sound key row is = record {
  decided = λ m p a b x y. inl (is.decided m p a b x y);
  accepts = λ m p refusal may. is.by_book m p (Refused refusal) may;
  answered = λ repeated m p ready all. is.answered repeated m p ready (hold_rules p.terms.members p.events all);
  counts = λ repeated m p first count ready all may. absurd (is.by_book m p (Chunk first count) may);
  begins_own = λ m p. tt;
  gives_own = is.given;
  begins_keep = λ m p ready all. all;
  gives_keep = λ repeated m p reply ready may all. is.keep repeated m p reply ready may all;
  still = λ stays m p. absurd (cc);
  placed = λ stays m h. refl;
  outside = λ arrives m p fail. absurd (cc);
  tells = λ arrives m p reply may. absurd (cc);
  one_pass = λ arrives m p. absurd (cc);
  arrives_there = λ arrives m p. absurd (cc);
  waits_quietly = λ arrives m p. absurd (cc);
  lasts = λ repeated m p ready all may. (
    λ asks. absurd (cc),
    λ other same. (
      subst (λ (k : Key). held_by (asker m p.events) (holder k p.events) ≡ false) (same_some key other same) (is.apart repeated m p ready may),
      held_inside (held_row key row) repeated m p key ready refl (is.bound m p may),
    ),
    (p, Wait, refl, may),
  );
  waits_for = λ other m p at may. subst (λ (k : Key). (held : Held) × (holder k p.events ≡ Some held)) (same_some key other at) (is.waits_for m p may);
  tells_count = λ other repeated m count p at ready all may.
      subst (λ (k : Key). count ≡ times_held (asker m p.events) (holder k (row.gives m p (Count count) ++ p.events))) (same_some key other at) (is.tells_count repeated m count p ready may);
  runs = λ m p task code arg own may. absurd (is.by_book m p (Run task code arg own) may);
  ends = λ m p task waiting may. absurd (is.by_book m p (TaskDone task waiting) may);
  created = λ repeated m p task ready may. absurd (is.by_book m p (Created task) may);
  cancelled = λ m p may. absurd (is.by_book m p Cancelled may);
  dropped = λ repeated m p ready all may. absurd (is.by_book m p Dropped may);
  allowed = λ cancels m p. absurd (cc);
  no_memory = λ m p. let none = is.no_memory m p in (refl, refl, none.0, none.1, λ repeated. refl);
  words_keep = λ puts repeated m p reply ready may all. absurd (cc);
}
