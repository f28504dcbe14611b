-- What a member does in its shares changes nothing for the board, and leaves it the room that it keeps.
use Rattle.std.proofs.Common.{◌≡◌, ◌≤◌, ℕ, Bool, true, false, subst, zero, suc, List, [], ◌∷◌, ◌++◌, Option, Some, None, refl, ap, sym, ◌∙◌, arith, inl, inr}
use Rattle.gomp_types.specs.declared.call.Server.TheVariants.{Shares as OfShares}
use Rattle.gomp_types.specs.Servers.{kind_served_by}
use Rattle.std.specs.Prelude.{ℤ, ◌==◌, ◌&&◌, ◌||◌, not, if◌then◌else◌, IfSome}
use Rattle.gomp_types.specs.declared.cancel.CancelKind.{CancelKind}
use Rattle.gomp_types.specs.declared.cancel.CancelKind.TheVariants as kinds
use Rattle.gomp_types.specs.declared.cancel.Scope.{Scope}
use Rattle.gomp_types.specs.declared.cancel.Scope.TheVariants.{Region, OneShare, OneGroup}
use Rattle.gomp_events.specs.Cancels.{was_cancelled, some_cancelled, is_covered, own_cancelled, leaves_share, share_scope, scope_of}
use Rattle.gomp_events.specs.CancelCalls.{sees_cancelled, discards_to, cancels, cancels_by, tells_cancelled}
use Rattle.gomp_events.specs.Goals.{is_unstarted}
use Rattle.gomp_events.specs.Groups.{groups_around}
use Rattle.gomp_events.specs.Tasks.{tasks_created}
use Rattle.gomp_types.specs.Shapes.{is_loop, is_sections}
use Rattle.std.proofs.lemmas.Bool.{cases_Bool}
use Rattle.gomp_events.specs.declared.event.Event.{Event}
use Rattle.gomp_events.specs.declared.event.Event.TheVariants.{Enter, End, Put, Cancel, See}
use Rattle.gomp_types.specs.declared.reply.Reply.{Reply}
use Rattle.gomp_types.specs.declared.reply.Reply.TheVariants.{Chunk, NoChunk, Section, Executor, Finished, Cancelled, Cancelling}
use Rattle.gomp_types.specs.declared.shape.Shape.{Shape}
use Rattle.gomp_events.specs.Events.{open_share, has_drained}
use Rattle.gomp_events.specs.Laws.{Always}
use Rattle.gomp_types.proofs.Booleans.{is_equal}
use Rattle.gomp_shares.specs.Loops.{piece_given, handed_on, next_given}
use Rattle.gomp_shares.specs.Sections.{section_given, section_next_given}
use Rattle.gomp_shares.specs.Singles.{single_given}
use Rattle.gomp_shares.specs.OrderedParts.{part_given}
use Rattle.gomp_shares.specs.Calls.{kind_in}
use Rattle.gomp_shares.specs.Starts.{behind, entry_and, leaves}
use Rattle.gomp_scheduler.specs.Schedulers.{AreSealed}
use Rattle.gomp_model.specs.Row.{unless_repeated}
use Rattle.gomp_model.specs.Starts.{share_room}
use Rattle.gomp_board.specs.Stored.{IsNotStored, AreAside}
use Rattle.gomp_dispatch.specs.Answers.{room_left, PutsInside}
use Rattle.gomp_dispatch.specs.Serves.{IsShareEvent, AreShareEvents}

-- Lists of them

pub share_events_append : (m : ℕ) (starts : Option Shape) (events more : List Event) → AreShareEvents m starts events → AreShareEvents m starts more → AreShareEvents m starts (events ++ more)
share_events_append m starts [] more first rest = rest
share_events_append m starts (event ∷ events) more first rest = (first.0, share_events_append m starts events more first.1 rest)

event_is_aside : (m : ℕ) (starts : Option Shape) (event : Event) → IsShareEvent m starts event → IsNotStored event
event_is_aside m starts (Enter share n shape) is = tt
event_is_aside m starts _ is = is

pub share_events_aside : (m : ℕ) (starts : Option Shape) (events : List Event) → AreShareEvents m starts events → AreAside events
share_events_aside m starts [] are = tt
share_events_aside m starts (event ∷ events) are = (event_is_aside m starts event are.0, share_events_aside m starts events are.1)

-- Room

-- a member keeps enough if it keeps what its share needs that it starts
kept_after_event : (m k n : ℕ) (starts : Option Shape) (event : Event) (h : List Event) → IsShareEvent m starts event → (k ≡ m → IfSome starts (λ (shape : Shape). share_room shape ≤ n)) →
    room_left (open_share k h) ≤ n → room_left (open_share k (event ∷ h)) ≤ n
kept_after_event m k n starts (Enter share x shape) h is fits low = elim (cases_Bool (x == k)) [
  | inl who ↦
      let own : k ≡ m = sym (is_equal x k who) ∙ is.0 in
      let enough : IfSome (Some shape) (λ (s : Shape). share_room s ≤ n) = subst (λ (o : Option Shape). IfSome o (λ (s : Shape). share_room s ≤ n)) is.1 (fits own) in
      rw who enough
  | inr other ↦ rw other low
]
kept_after_event m k n starts (End share x) h is fits low = elim (cases_Bool (x == k)) [
  | inl who ↦ rw who (omega arith)
  | inr other ↦ rw other low
]
kept_after_event m k n starts _ h is fits low = low

pub kept_after_events : (m k n : ℕ) (starts : Option Shape) (events h : List Event) → AreShareEvents m starts events → (k ≡ m → IfSome starts (λ (shape : Shape). share_room shape ≤ n)) →
    room_left (open_share k h) ≤ n → room_left (open_share k (events ++ h)) ≤ n
kept_after_events m k n starts [] h are fits low = low
kept_after_events m k n starts (event ∷ events) h are fits low = kept_after_event m k n starts event (events ++ h) are.0 fits (kept_after_events m k n starts events h are.1 fits low)

-- Words are put by members of their share alone

puts_beside : (event : Event) (h : List Event) → IsNotStored event → PutsInside event h
puts_beside (Put share m words) h is = absurd is
puts_beside _ h is = tt

pub puts_stay_inside : (events h : List Event) → AreAside events → Always PutsInside h → Always PutsInside (events ++ h)
puts_stay_inside [] h are all = all
puts_stay_inside (event ∷ events) h are all = (puts_beside event (events ++ h) are.0, puts_stay_inside events h are.1 all)

-- What each construct gives

pub once_share_events : (m : ℕ) (starts : Option Shape) (events : List Event) (repeated : Bool) → AreShareEvents m starts events → AreShareEvents m starts (unless_repeated events repeated)
once_share_events m starts [] repeated are = tt
once_share_events m starts (event ∷ events) true are = tt
once_share_events m starts (event ∷ events) false are = are

pub behind_entry : (m n : ℕ) (shape : Shape) (events : List Event) → AreShareEvents m (Some shape) events → AreShareEvents m (Some shape) (behind (Enter n m shape) events)
behind_entry m n shape [] are = tt
behind_entry m n shape (event ∷ events) are = (are.0, share_events_append m (Some shape) events (Enter n m shape ∷ []) are.1 ((refl, refl), tt))

-- how a construct's share is dealt out gives events of shares alone
abbrev pub DealsShareEvents : (ℕ → Shape → ℕ → Reply → List Event) → Type 0
DealsShareEvents Given = (m n : ℕ) (starts : Option Shape) (shape : Shape) (reply : Reply) → AreShareEvents m starts (Given n shape m reply)

pub entry_share_events : (Given : ℕ → Shape → ℕ → Reply → List Event) → DealsShareEvents Given → (m : ℕ) (shape : Shape) (h : List Event) (reply : Reply) → AreShareEvents m (Some shape) (entry_and Given shape m h reply)
entry_share_events Given are m shape h reply = behind_entry m _ shape _ (are m _ (Some shape) shape reply)

pub piece_share_events : DealsShareEvents piece_given
piece_share_events m n starts shape (Chunk first count) = (tt, tt)
piece_share_events m n starts shape NoChunk = (tt, tt)
piece_share_events m n starts shape _ = tt

handed_share_events : (members m : ℕ) (starts : Option Shape) (share : ℕ × Shape) (ordered : Bool) (h : List Event) → share.1.ordered ≡ ordered → AreShareEvents m starts (handed_on members share m h)
handed_share_events members m starts share true h is = rw is (tt, tt)
handed_share_events members m starts share false h is = rw is tt

pub next_share_events : (members m : ℕ) (starts : Option Shape) (share : Option (ℕ × Shape)) (h : List Event) (reply : Reply) → AreShareEvents m starts (next_given members share m h reply)
next_share_events members m starts None h reply = tt
next_share_events members m starts (Some share) h (Chunk first count) = (tt, handed_share_events members m starts share share.1.ordered h refl)
next_share_events members m starts (Some share) h NoChunk = (tt, handed_share_events members m starts share share.1.ordered h refl)
next_share_events members m starts (Some share) h _ = tt

pub section_share_events : DealsShareEvents section_given
section_share_events m n starts shape (Section zero) = (tt, tt)
section_share_events m n starts shape (Section (suc k)) = (tt, tt)
section_share_events m n starts shape _ = tt

pub section_next_share_events : (m : ℕ) (starts : Option Shape) (share : Option (ℕ × Shape)) (reply : Reply) → AreShareEvents m starts (section_next_given share m reply)
section_next_share_events m starts None reply = tt
section_next_share_events m starts (Some share) reply = section_share_events m share.0 starts share.1 reply

pub single_share_events : DealsShareEvents single_given
single_share_events m n starts shape (Executor true) = (tt, (tt, tt))
single_share_events m n starts shape (Executor false) = (tt, (tt, tt))
single_share_events m n starts shape _ = tt

pub part_share_events : (m : ℕ) (starts : Option Shape) (share : Option (ℕ × Shape)) (value : ℤ) (reply : Reply) → AreShareEvents m starts (part_given share m value reply)
part_share_events m starts None value reply = tt
part_share_events m starts (Some share) value Finished = (tt, tt)
part_share_events m starts (Some share) value _ = tt

-- a call that waits may be answered that the region is cancelled
pub cut_share_events : (m : ℕ) (starts : Option Shape) (reply : Reply) (events : List Event) → AreShareEvents m starts events → AreShareEvents m starts (sees_cancelled m reply events)
cut_share_events m starts Cancelled events are = (tt, tt)
cut_share_events m starts _ events are = are

-- the end of a share, before which its member may see that it is cancelled
see_first : (sees : Bool) (m : ℕ) (kind : CancelKind) → AreShareEvents m None (if sees then See m kind ∷ [] else [])
see_first true m kind = (tt, tt)
see_first false m kind = tt

pub leave_share_events : (m : ℕ) (h : List Event) → AreShareEvents m None (leaves m h)
leave_share_events m h = (tt, see_first (own_cancelled m h && not (has_drained m h || leaves_share m h)) m (kind_in (open_share m h)))

-- Cancelled shares

groups_stay : (qs : List ℕ) (m i : ℕ) (h : List Event) → some_cancelled qs (Cancel m (OneShare i) ∷ h) ≡ some_cancelled qs h
groups_stay [] m i h = refl
groups_stay (q ∷ qs) m i h = ap (λ (b : Bool). was_cancelled (OneGroup q) h || b) (groups_stay qs m i h)

-- the cancellation of a share reaches no task
share_covers_none : (t m i : ℕ) (h : List Event) → is_covered t (Cancel m (OneShare i) ∷ h) ≡ is_covered t h
share_covers_none t m i h = ap (λ (b : Bool). was_cancelled Region h || b) (groups_stay (groups_around t h) m i h)

not_both_so : (a b : Bool) → (a ≡ true → b ≡ false) → (a && b) ≡ false
not_both_so true b none = none refl
not_both_so false b none = refl

-- so it discards none, if each that another reaches was discarded
share_cancel_discards_none : (n m i : ℕ) (h : List Event) → AreSealed h → discards_to n m (Cancel m (OneShare i) ∷ h) ≡ []
share_cancel_discards_none zero m i h sealed = refl
share_cancel_discards_none (suc k) m i h sealed =
    let none : (is_unstarted (suc k) h && is_covered (suc k) (Cancel m (OneShare i) ∷ h)) ≡ false = not_both_so (is_unstarted (suc k) h) _ (λ unstarted. share_covers_none (suc k) m i h ∙ sealed (suc k) unstarted) in
    rw none (share_cancel_discards_none k m i h sealed)

-- a share's
abbrev IsOfShare : Option Scope → Type 0
IsOfShare None = Unit {0}
IsOfShare (Some (OneShare i)) = Unit {0}
IsOfShare (Some scope) = ⊥

scope_if : (b : Bool) (i : ℕ) → IsOfShare (if b then Some (OneShare i) else None)
scope_if true i = tt
scope_if false i = tt

share_scope_of_share : (is : Shape → Bool) (share : Option (ℕ × Shape)) → IsOfShare (share_scope is share)
share_scope_of_share is None = tt
share_scope_of_share is (Some share) = scope_if (is share.1) share.0

named_of_share : (kind : CancelKind) (m : ℕ) (h : List Event) → kind_served_by kind ≡ OfShares → IsOfShare (scope_of kind m h)
named_of_share kinds.Loop m h names = share_scope_of_share (λ shape. is_loop shape.kind) (open_share m h)
named_of_share kinds.Sections m h names = share_scope_of_share (λ shape. is_sections shape.kind) (open_share m h)
named_of_share _ m h names = absurd (cc)

cancel_share_events : (m : ℕ) (scope : Option Scope) (h : List Event) → IsOfShare scope → AreSealed h → AreShareEvents m None (cancels m scope h)
cancel_share_events m None h of sealed = tt
cancel_share_events m (Some (OneShare i)) h of sealed =
    subst (λ (events : List Event). AreShareEvents m None (events ++ (Cancel m (OneShare i) ∷ []))) (sym (share_cancel_discards_none (tasks_created h) m i h sealed)) (tt, tt)
cancel_share_events m (Some _) h of sealed = absurd of

cancels_by_share_events : (clause : Bool) (kind : CancelKind) (m : ℕ) (h : List Event) → kind_served_by kind ≡ OfShares → AreSealed h → AreShareEvents m None (cancels_by clause kind m h)
cancels_by_share_events true kind m h names sealed = cancel_share_events m (scope_of kind m h) h (named_of_share kind m h names) sealed
cancels_by_share_events false kind m h names sealed = tt

pub tell_share_events : (kind : CancelKind) (clause : Bool) (m : ℕ) (h : List Event) (reply : Reply) → kind_served_by kind ≡ OfShares → AreSealed h → AreShareEvents m None (tells_cancelled kind clause m h reply)
tell_share_events kind clause m h (Cancelling true) names sealed = (tt, cancels_by_share_events clause kind m h names sealed)
tell_share_events kind clause m h (Cancelling false) names sealed = tt
tell_share_events kind clause m h _ names sealed = tt
