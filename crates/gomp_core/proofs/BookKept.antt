-- A call of the parts leaves the book of names and locks standing, and a call of the book the parts.
use Rattle.std.proofs.Common.{◌≡◌, ℕ, Bool, true, false, List, [], ◌∷◌, ◌++◌, Option, Some, None, refl, ap, ◌∙◌, sym, arith}
use Rattle.gomp_types.specs.declared.call.Server.{Server}
use Rattle.gomp_dispatch.proofs.Refused.{no_kind_of_book}
use Rattle.std.specs.Prelude.{◌≢◌}
use Rattle.gomp_types.specs.Servers.{served_by}
use Rattle.gomp_types.specs.declared.call.Server.TheVariants.{Book}
use Rattle.std.specs.Prelude.{◌≤◌, ◌+◌, if◌then◌else◌, slice_get, option_map}
use Rattle.gomp_types.specs.declared.call.Call.{Call}
use Rattle.gomp_types.specs.declared.call.Call.TheVariants.{Cancel, Point}
use Rattle.gomp_types.specs.declared.key.Key.{Key}
use Rattle.gomp_types.specs.declared.key.Key.TheVariants.{Critical}
use Rattle.gomp_types.specs.declared.lock.LockKind.{LockKind}
use Rattle.gomp_types.specs.declared.refusal.Refusal.TheVariants.{NoMemory}
use Rattle.gomp_types.specs.declared.reply.Reply.{Reply}
use Rattle.gomp_types.specs.declared.reply.Reply.TheVariants.{Refused}
use Rattle.gomp_events.specs.declared.event.Event.{Event}
use Rattle.gomp_events.specs.declared.event.Event.TheVariants.{Hold, Free}
use Rattle.gomp_types.specs.declared.task.Task.{Task}
use Rattle.gomp_locks.specs.Book.{BookView}
use Rattle.gomp_locks.specs.Holders.{key_of, holder, holding_owner}
use Rattle.gomp_events.specs.Events.{open_share}
use Rattle.gomp_events.specs.Laws.{Always}
use Rattle.gomp_model.specs.Past.{Terms, Past}
use Rattle.gomp_model.specs.Row.{Row, begun_past, given_after, events_after, room_after, locks_after, MayGive, past_given}
use Rattle.gomp_model.specs.CriticalNames.{was_name_held, held_once, freed_once}
use Rattle.gomp_model.specs.Calls.{row_of}
use Rattle.gomp_laws.proofs.Sound.{Gives, gives_of, IsLast}
use Rattle.gomp_laws.proofs.CallsKeep.{step_keeps}
use Rattle.gomp_laws.proofs.Calls.{row_is_sound}
use Rattle.gomp_board.specs.Boards.{BoardView, Stands as BoardStands, kept_by}
use Rattle.gomp_board.proofs.Laws.{events_aside_keep_board}
use Rattle.gomp_dispatch.specs.Answers.{room_left, PutsInside, ServersStand}
use Rattle.gomp_book_calls.specs.Stands.{lock_held, BookStands, IsKnown}

-- The past after a reply

pub events_so : (call : Call) (repeated : Bool) (m : ℕ) (p : Past) (reply : Reply) → MayGive (row_of call) repeated m p reply → events_after repeated (row_of call) m p reply ≡ (past_given (row_of call) repeated m p reply).events
events_so call repeated m p (Refused NoMemory) may = refl
events_so call repeated m p (Refused refusal) may = absurd ((row_is_sound call).accepts m (begun_past repeated (row_of call) m p) refusal may)
events_so call repeated m p _ may = refl

pub locks_so : (row : Row) (repeated : Bool) (m : ℕ) (p : Past) (reply : Reply) → locks_after row reply p.locks ≡ (past_given row repeated m p reply).locks
locks_so row repeated m p (Refused refusal) = refl
locks_so row repeated m p _ = refl

pub room_so : (row : Row) (repeated : Bool) (m : ℕ) (p : Past) (reply : Reply) → room_after repeated row reply p.room ≡ (past_given row repeated m p reply).room
room_so row repeated m p (Refused refusal) = refl
room_so row repeated m p _ = refl

pub terms_so : (row : Row) (repeated : Bool) (m : ℕ) (p : Past) (reply : Reply) → p.terms ≡ (past_given row repeated m p reply).terms
terms_so row repeated m p (Refused refusal) = refl
terms_so row repeated m p _ = refl

-- A book stands for what is held alike

held_alike : (number : ℕ) (h now : List Event) (place : Option (Option LockKind)) → ((key : Key) → holder key now ≡ holder key h) → option_map (lock_held number h) place ≡ option_map (lock_held number now) place
held_alike number h now None same = refl
held_alike number h now (Some None) same = refl
held_alike number h now (Some (Some kind)) same = rw (same (key_of kind number)) refl

pub book_moved : (book : BookView) (p q : Past) → ((key : Key) → holder key q.events ≡ holder key p.events) → ((name : List ℕ) → was_name_held name q.events ≡ was_name_held name p.events) → q.locks ≡ p.locks → BookStands book p → BookStands book q
book_moved book p q same begun locks st = record {
  names = λ name. st.names name ∙ ap holding_owner (sym (same (Critical name)));
  locks = λ number. st.locks number ∙ held_alike number p.events q.events (slice_get p.locks number) same ∙ ap (λ (all : List (Option LockKind)). option_map (lock_held number q.events) (slice_get all number)) (sym locks);
  unmade = λ kind number past. same (key_of kind number) ∙ st.unmade kind number (rw locks at past);
  started = λ name is. st.started name (sym (begun name) ∙ is);
}

-- A call of the parts

-- whether the book answers it
abbrev by_book : Server → Bool
by_book Book = true
by_book _ = false

not_by_book : (server : Server) → server ≢ Book → by_book server ≡ false
not_by_book Book aside = absurd (aside refl)
not_by_book _ aside = refl

pub holds_nothing : (call : Call) → served_by call ≢ Book → (row_of call).holds ≡ None
holds_nothing call aside = none_held call (not_by_book (served_by call) aside)
  where
    none_held : (call : Call) → by_book (served_by call) ≡ false → (row_of call).holds ≡ None
    none_held (Cancel kind clause) aside = refl
    none_held (Point kind) aside = refl
    none_held _ aside = cc

makes_nothing : (call : Call) (reply : Reply) (locks : List (Option LockKind)) → served_by call ≢ Book → (row_of call).locks reply locks ≡ locks
makes_nothing call reply locks aside = none_made call (not_by_book (served_by call) aside)
  where
    none_made : (call : Call) → by_book (served_by call) ≡ false → (row_of call).locks reply locks ≡ locks
    none_made (Cancel kind clause) aside = refl
    none_made (Point kind) aside = refl
    none_made _ aside = cc

last_holds_none : (can : Gives) (m : ℕ) (reply : Reply) (event : Event) (key : Key) (h now : List Event) → can.holds ≡ None → IsLast can m reply event → holder key now ≡ holder key h → holder key (event ∷ now) ≡ holder key h
last_holds_none can m reply (Hold other n task) key h now none by same = absurd (let holds = by.1 in cc)
last_holds_none can m reply (Free other n task) key h now none by same = absurd (let holds = by.1 in cc)
last_holds_none can m reply _ key h now none by same = same

holders_kept : (call : Call) (repeated : Bool) (m : ℕ) (p : Past) (reply : Reply) (key : Key) → served_by call ≢ Book → holder key (events_after repeated (row_of call) m p reply) ≡ holder key p.events
holders_kept call repeated m p reply key aside =
    step_keeps (row_of call) (row_is_sound call) repeated m p reply (λ h. holder key h ≡ holder key p.events)
    (λ event h by same. last_holds_none (gives_of (row_of call)) m reply event key p.events h (holds_nothing call aside) by same) refl

last_starts_none : (can : Gives) (m : ℕ) (reply : Reply) (event : Event) (name : List ℕ) (h now : List Event) → can.holds ≡ None → IsLast can m reply event → was_name_held name now ≡ was_name_held name h → was_name_held name (event ∷ now) ≡ was_name_held name h
last_starts_none can m reply (Hold other n task) name h now none by same = absurd (let holds = by.1 in cc)
last_starts_none can m reply _ name h now none by same = same

names_begun : (call : Call) (repeated : Bool) (m : ℕ) (p : Past) (reply : Reply) (name : List ℕ) → served_by call ≢ Book → was_name_held name (events_after repeated (row_of call) m p reply) ≡ was_name_held name p.events
names_begun call repeated m p reply name aside =
    step_keeps (row_of call) (row_is_sound call) repeated m p reply (λ h. was_name_held name h ≡ was_name_held name p.events)
    (λ event h by same. last_starts_none (gives_of (row_of call)) m reply event name p.events h (holds_nothing call aside) by same) refl

made_kept : (call : Call) (repeated : Bool) (m : ℕ) (p : Past) (reply : Reply) → served_by call ≢ Book → (past_given (row_of call) repeated m p reply).locks ≡ p.locks
made_kept call repeated m p (Refused refusal) aside = refl
made_kept call repeated m p reply aside = makes_nothing call reply p.locks aside

pub parts_leave_book : (book : BookView) (call : Call) (repeated : Bool) (m : ℕ) (p : Past) (reply : Reply) → served_by call ≢ Book → MayGive (row_of call) repeated m p reply → BookStands book p → BookStands book (past_given (row_of call) repeated m p reply)
parts_leave_book book call repeated m p reply aside may st =
    let given = past_given (row_of call) repeated m p reply in
    book_moved book p given (λ key. ap (holder key) (sym (events_so call repeated m p reply may)) ∙ holders_kept call repeated m p reply key aside)
    (λ name. ap (was_name_held name) (sym (events_so call repeated m p reply may)) ∙ names_begun call repeated m p reply name aside) (made_kept call repeated m p reply aside) st

-- it waits for no name
pub knows_nothing : (book : BookView) (call : Call) → served_by call ≢ Book → IsKnown book (Some call)
knows_nothing book call aside = λ name is. absurd (let none = holds_nothing call aside in cc)

-- A call of the book

-- what no event of a name or of a lock changes
abbrev pub KeepsHolds : (List Event → Type 0) → Type 0
KeepsHolds P = (h : List Event) (key : Key) (m : ℕ) (task : Task) → P h → P (Hold key m task ∷ h) × P (Free key m task ∷ h)

held_aside : (P : List Event → Type 0) → KeepsHolds P → (test : Bool) (key : Key) (m : ℕ) (h : List Event) → P h → P (held_once test key m h ++ h)
held_aside P keeps true key m h holds = (keeps h key m _ holds).0
held_aside P keeps false key m h holds = holds

freed_aside : (P : List Event → Type 0) → KeepsHolds P → (test : Bool) (key : Key) (m : ℕ) (h : List Event) → P h → P (freed_once test key m h ++ h)
freed_aside P keeps true key m h holds = (keeps h key m _ holds).1
freed_aside P keeps false key m h holds = holds

given_aside : (P : List Event → Type 0) → KeepsHolds P → (call : Call) (repeated : Bool) (m : ℕ) (p : Past) (reply : Reply) → served_by call ≡ Book → P p.events → P (given_after (row_of call) repeated m p reply)
given_aside P keeps (Cancel kind clause) repeated m p reply asks holds = absurd (no_kind_of_book kind asks)
given_aside P keeps (Point kind) repeated m p reply asks holds = absurd (no_kind_of_book kind asks)
given_aside P keeps _ repeated m p reply asks holds = first_of (cc, search (held_aside P keeps, freed_aside P keeps, holds))

book_leaves : (P : List Event → Type 0) → KeepsHolds P → (call : Call) (repeated : Bool) (m : ℕ) (p : Past) (reply : Reply) → served_by call ≡ Book → P p.events → P (past_given (row_of call) repeated m p reply).events
book_leaves P keeps call repeated m p (Refused refusal) asks holds = holds
book_leaves P keeps call repeated m p reply asks holds = given_aside P keeps call repeated m p reply asks holds

-- it asks for no room, and starts no share
pub book_asks_no_room : (call : Call) → served_by call ≡ Book → (row_of call).room ≡ 0
book_asks_no_room (Cancel kind clause) asks = absurd (no_kind_of_book kind asks)
book_asks_no_room (Point kind) asks = absurd (no_kind_of_book kind asks)
book_asks_no_room _ asks = cc

pub book_starts_nothing : (call : Call) → served_by call ≡ Book → (row_of call).starts ≡ None
book_starts_nothing (Cancel kind clause) asks = absurd (no_kind_of_book kind asks)
book_starts_nothing (Point kind) asks = absurd (no_kind_of_book kind asks)
book_starts_nothing _ asks = cc

nothing_more : (keeps : Bool) (room more : ℕ) → more ≡ 0 → (if keeps then room + more else room) ≡ room
nothing_more true room more none = omega (arith, none)
nothing_more false room more none = refl

no_room_asked : (row : Row) (repeated : Bool) (m : ℕ) (p : Past) (reply : Reply) → row.room ≡ 0 → (past_given row repeated m p reply).room ≡ p.room
no_room_asked row repeated m p (Refused refusal) none = refl
no_room_asked row true m p _ none = refl
no_room_asked row false m p reply none = nothing_more (row.keeps_room reply) p.room row.room none

pub book_leaves_parts : {S : Type 0} (stands : S → List Event → Type 0) (shares : S) (board : BoardView) → KeepsHolds (stands shares) → (call : Call) (repeated : Bool) (m : ℕ) (p : Past) (reply : Reply) → served_by call ≡ Book →
    ServersStand stands shares board p → ServersStand stands shares board (past_given (row_of call) repeated m p reply)
book_leaves_parts stands shares board keeps call repeated m p reply asks st =
    let row = row_of call in
    let terms = terms_so row repeated m p reply in record {
      shares_are = book_leaves (stands shares) keeps call repeated m p reply asks st.shares_are;
      board_is = book_leaves (BoardStands board) (λ h key n task is. (events_aside_keep_board board h (Hold key n task ∷ []) (tt, tt) is, events_aside_keep_board board h (Free key n task ∷ []) (tt, tt) is)) call repeated m p reply asks st.board_is;
      members = ap (λ (t : Terms). t.members) (sym terms) ∙ st.members;
      limits = ap (λ (t : Terms). t.limits) (sym terms) ∙ st.limits;
      room = no_room_asked row repeated m p reply (book_asks_no_room call asks) ∙ st.room;
      kept = λ k. book_leaves (λ (h : List Event). room_left (open_share k h) ≤ kept_by k board) (λ h key n task le. (le, le)) call repeated m p reply asks (st.kept k);
      puts = book_leaves (Always PutsInside) (λ h key n task puts. ((tt, puts), (tt, puts))) call repeated m p reply asks st.puts;
    }
