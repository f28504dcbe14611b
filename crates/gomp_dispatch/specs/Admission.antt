-- For which pasts a call is tested, and what its member's place has shown of it before. (own)
use Rattle.std.specs.Prelude.{ℕ, ◌≡◌, Bool, true, false, List, Option, None}
use Rattle.gomp_types.specs.declared.limits.Limits.{Limits}
use Rattle.gomp_types.specs.declared.refusal.Refusal.{Refusal}
use Rattle.gomp_types.specs.Least.{least}
use Rattle.gomp_events.specs.declared.event.Event.{Event}
use Rattle.gomp_events.specs.declared.seen.Seen.{Seen}
use Rattle.gomp_events.specs.Cancels.{is_leaving}
use Rattle.gomp_model.specs.Past.{Past}
use Rattle.gomp_model.specs.Row.{Row, leaving_tests, place_tests, board_tests}
use Rattle.gomp_board.specs.Boards.{BoardView}
use Rattle.gomp_dispatch.specs.declared.leaving.Leaving.{Leaving}
use Rattle.gomp_dispatch.specs.Answers.{ByPlace, ServersStand}
use Rattle.gomp_dispatch.specs.Leaves.{LeavesAs}

-- of each past for whose events the parts stand this holds
abbrev pub EachPast : (List Event → Type 0) → (Past → Type 0) → Type 0
EachPast stand P = (p : Past) → stand p.events → P p

-- of each such past with these limits in which the member leaves so
abbrev pub EachTested : Limits → Leaving → ℕ → (List Event → Type 0) → (Past → Type 0) → Type 0
EachTested limits leaving m stand P = (p : Past) → p.terms.limits ≡ limits → stand p.events → LeavesAs leaving m p.events → P p

-- a repeated call whose member has stayed in its place was let through there
abbrev pub WasPlaced : Bool → Row → Limits → Seen → Type 0
WasPlaced repeated row limits seen = repeated ≡ true → row.stays ≡ true → least (row.by_place limits seen) ≡ None

-- what a call's place refuses, of a member that leaves so and by that may give up its share
abbrev pub ByPlaceLeaving : Leaving → ℕ → Row → Limits → Seen → Option Refusal → Type 0
ByPlaceLeaving leaving m row limits seen found = (h : List Event) → LeavesAs leaving m h → ByPlace row limits (row.gives_up m h) seen found

-- of each past for which the parts stand, and in which the member leaves so, this holds
abbrev pub EachStandsSo : {S : Type 0} → (S → List Event → Type 0) → S → BoardView → Leaving → ℕ → (Past → Type 0) → Type 0
EachStandsSo stands shares board leaving m P = (p : Past) → ServersStand stands shares board p → LeavesAs leaving m p.events → P p

-- no test of the parts refuses a member a call with this row that it makes
pub record PartsLet (row : Row) (m : ℕ) (p : Past) : Type 0 where
  -- it leaves nothing, or the call lets it
  pub leaving : least (leaving_tests false row m p) ≡ None
  -- its place lets it, and no other member's construct differs
  pub place : least (place_tests false row m p) ≡ None
  -- tasks, groups and cancellation let it, and there is room
  pub board : least (board_tests false row m p) ≡ None

-- nor does it leave anything
abbrev pub PartsLetStaying : Row → ℕ → Past → Type 0
PartsLetStaying row m p = (is_leaving m p.events ≡ false) × PartsLet row m p
