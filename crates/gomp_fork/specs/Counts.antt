-- What the members of a region are counted to have held and freed of critical names and locks. (own; OpenMP API 5.2, sections 15.2 and 18.9)
use Rattle.std.specs.Prelude.{ℕ, ◌≡◌, ◌+◌, List, map, sum_by}
use Rattle.gomp_team_book.specs.Parts.{BookPartView}
use Rattle.gomp_team_region.specs.declared.book_share.BookShare.{BookShare}
use Rattle.gomp_course.specs.Forkers.{RunnerView}

-- how often something was held, and how often something was freed
pub record HoldCounts : Type 0 where
  pub held : ℕ
  pub freed : ℕ

-- nothing yet
abbrev pub nothing_counted : HoldCounts
nothing_counted = record { held = 0; freed = 0 }

-- the one and the other together
abbrev pub both_counted : HoldCounts → HoldCounts → HoldCounts
both_counted one other = record { held = one.held + other.held; freed = one.freed + other.freed }

-- on a part of each of the book's ledgers: that of holds, and that of releases
abbrev pub counted_on : BookPartView → BookPartView → HoldCounts
counted_on held freed = record { held = held.amount; freed = freed.amount }

-- on those of a share
abbrev pub counted_in : {H F : Type 0} → BookShare H F → HoldCounts
counted_in share = counted_on share.held share.freed

module _ {P T : Type 0} where
  -- by the regions that these members forked
  abbrev pub counted_within : List (RunnerView HoldCounts P T) → HoldCounts
  counted_within ends = record { held = sum_by (λ end. end.inner.held) ends; freed = sum_by (λ end. end.inner.freed) ends }

  -- by these members, and by the regions that they forked
  abbrev pub counted_by : List (RunnerView HoldCounts P T) → HoldCounts
  counted_by ends = record { held = sum_by (λ end. end.member.held.amount + end.inner.held) ends; freed = sum_by (λ end. end.member.freed.amount + end.inner.freed) ends }

  -- none of these has forked a region yet in which something was held or freed
  abbrev pub HaveCountedNothing : List (RunnerView HoldCounts P T) → Type 0
  HaveCountedNothing starts = map (λ start. start.inner) starts ≡ map (λ start. nothing_counted) starts
