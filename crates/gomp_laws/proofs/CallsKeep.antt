-- What each event of a member's call keeps is kept by the call and its reply, whatever the call is.
use Rattle.std.proofs.Common.{ℕ, Bool, true, false, List, [], ◌∷◌, ◌++◌, append_assoc, refl}
use Rattle.gomp_types.specs.declared.refusal.Refusal.{Refusal}
use Rattle.gomp_types.specs.declared.refusal.Refusal.TheVariants.{Mismatch}
use Rattle.gomp_types.specs.declared.refusal.Place.{Place}
use Rattle.gomp_types.specs.declared.reply.Reply.{Reply}
use Rattle.gomp_types.specs.declared.reply.Reply.TheVariants.{Refused}
use Rattle.gomp_events.specs.declared.event.Event.{Event}
use Rattle.gomp_events.specs.declared.event.Event.TheVariants.{Break}
use Rattle.gomp_events.specs.Laws.{Always}
use Rattle.gomp_events.specs.Breaks.{refusal_gives}
use Rattle.gomp_laws.specs.Rules.{TeamRule}
use Rattle.gomp_model.specs.Past.{Past}
use Rattle.gomp_model.specs.Row.{Row, unless_repeated, begun_past, events_after}
use Rattle.gomp_laws.proofs.Sound.{IsOwn, AreOwn, IsLast, AreGiven, own_last, IsSound, gives_of, Gives}

-- what each event of a call keeps, the newest one of its reply aside
abbrev pub OwnKeeps : Gives → ℕ → (List Event → Type 0) → Type 0
OwnKeeps can m P = (event : Event) (h : List Event) → IsOwn can m event → P h → P (event ∷ h)

pub own_keeps : (can : Gives) (m : ℕ) (P : List Event → Type 0) (events h : List Event) → OwnKeeps can m P → AreOwn can m events → P h → P (events ++ h)
own_keeps can m P [] h each own p = p
own_keeps can m P (event ∷ events) h each own p = each event (events ++ h) own.0 (own_keeps can m P events h each own.1 p)

once_own : (can : Gives) (repeated : Bool) (m : ℕ) (events : List Event) → AreOwn can m events → AreOwn can m (unless_repeated events repeated)
once_own can repeated m [] own = tt
once_own can true m (event ∷ events) own = tt
once_own can false m (event ∷ events) own = own

-- a call that has begun
pub since_keeps : (row : Row) → IsSound row → (repeated : Bool) (m : ℕ) (p : Past) (P : List Event → Type 0) → OwnKeeps (gives_of row) m P → P p.events → P (begun_past repeated row m p).events
since_keeps row sound repeated m p P each holds =
    own_keeps (gives_of row) m P (unless_repeated (row.begins m p) repeated) p.events each (once_own (gives_of row) repeated m (row.begins m p) (sound.begins_own m p)) holds

abbrev pub LastKeeps : Gives → ℕ → Reply → (List Event → Type 0) → Type 0
LastKeeps can m reply P = (event : Event) (h : List Event) → IsLast can m reply event → P h → P (event ∷ h)

pub last_is_own : (can : Gives) (m : ℕ) (reply : Reply) (P : List Event → Type 0) → LastKeeps can m reply P → OwnKeeps can m P
last_is_own can m reply P each = λ event h own p. each event h (own_last can m reply event own) p

given_keeps : (can : Gives) (m : ℕ) (reply : Reply) (P : List Event → Type 0) (events h : List Event) → LastKeeps can m reply P → AreGiven can m reply events → P h → P (events ++ h)
given_keeps can m reply P [] h each own p = p
given_keeps can m reply P (event ∷ events) h each own p = each event (events ++ h) own.0 (own_keeps can m P events h (last_is_own can m reply P each) own.1 p)

refusal_keeps : (can : Gives) (m : ℕ) (refusal : Refusal) (place : Place) (P : List Event → Type 0) (h : List Event) → LastKeeps can m (Refused refusal) P → P h → P (refusal_gives refusal m place ++ h)
refusal_keeps can m Mismatch place P h each p = each (Break m place) h (refl, refl) p
refusal_keeps can m _ place P h each p = p

-- a call and its reply
pub step_keeps : (row : Row) → IsSound row → (repeated : Bool) (m : ℕ) (p : Past) (reply : Reply) (P : List Event → Type 0) → LastKeeps (gives_of row) m reply P → P p.events → P (events_after repeated row m p reply)
step_keeps row sound repeated m p (Refused refusal) P each holds = refusal_keeps (gives_of row) m refusal (row.place m p.events) P p.events each holds
step_keeps row sound repeated m p reply P each holds =
    given_keeps (gives_of row) m reply P (row.gives m (begun_past repeated row m p) reply) (begun_past repeated row m p).events each (sound.gives_own m (begun_past repeated row m p) reply)
    (since_keeps row sound repeated m p P (last_is_own (gives_of row) m reply P each) holds)

-- events in two parts
pub regroup_rules : (members : ℕ) (first second h : List Event) → Always (TeamRule members) (first ++ (second ++ h)) → Always (TeamRule members) ((first ++ second) ++ h)
regroup_rules members first second h all = rw append_assoc all
