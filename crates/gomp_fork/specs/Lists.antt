-- What the members of a region return, by their numbers. (own)
use Rattle.std.specs.Prelude.{ℕ, List, []}
use Rattle.gomp_team.specs.Members.{MemberView}

-- the members and their programs; for how many more there is room
pub record ReturnedView (P T : Type 0) : Type 0 where
  pub members : List (MemberView T)
  pub progs : List P
  pub room : ℕ

-- nothing yet
abbrev pub nothing_returned : {P T : Type 0} → ℕ → ReturnedView P T
nothing_returned room = record { members = []; progs = []; room = room }
