-- A new board stands for no events, and has room for what is owed.
use Rattle.std.proofs.Common.{◌≡◌, ℕ, ◌+◌, ◌*◌, ◌≤◌, List, [], Option, None, length, refl, ap, sym, subst, arith, suc, zero, replicate}
use Rattle.std.specs.Prelude.{reverse, sum, min}
use Rattle.gomp_types.specs.declared.limits.Limits.{Limits}
use Rattle.gomp_types.specs.declared.limits.TheConstants.{OPEN_SHARES}
use Rattle.gomp_events.specs.declared.event.Event.{Event}
use Rattle.gomp_types.specs.Limits.{capped_limits}
use Rattle.gomp_events.proofs.TestReadings.{room_of_a_new_team}
use Rattle.gomp_scheduler.specs.Schedulers.{SchedulerView, Stands as SchedulerStands, SchedulerHasMembers as SchedulerHas}
use Rattle.gomp_board.specs.declared.payloads.Put.{Put}
use Rattle.gomp_board.specs.Owed.{owed}
use Rattle.gomp_board.specs.Boards.{Stands, IsBoard}
use Rattle.gomp_board.proofs.OwedKeeps.{new_team_owes}
use Rattle.gomp_board.proofs.PayloadsKeep.{no_words_stand}
use Rattle.gomp_board.proofs.Sealed.{none_unsealed}

-- members that keep nothing
pub length_zeros : (n : ℕ) → length {A = ℕ} (replicate n 0) ≡ n
length_zeros zero = refl
length_zeros (suc n) = ap suc (length_zeros n)

pub sum_zeros : (n : ℕ) → sum (replicate n 0) ≡ 0
sum_zeros zero = refl
sum_zeros (suc n) = sum_zeros n

-- limits that were lowered are no lower afterwards
pub capped_twice : (limits : Limits) → capped_limits (capped_limits limits) ≡ capped_limits limits
capped_twice limits = rw (twice limits.shares 131064, twice limits.tasks 1048576, twice limits.events 16777216) refl
  where
    twice : (n k : ℕ) → min (min n k) k ≡ min n k
    twice n k = omega arith

module _ (count room capacity : ℕ) (limits : Limits) (history : List Event) (kept : List ℕ) (scheduler : SchedulerView) (payloads : List (Option Put))
    (scheduler_stands : SchedulerStands scheduler []) (no_words : payloads ≡ replicate OPEN_SHARES None) (empty : history ≡ []) where
  pub new_stands : Stands (record { limits = limits; history = history; room = room; kept = kept; clash = None; scheduler = scheduler; payloads = payloads }) []
  new_stands = record {
    scheduler = scheduler_stands;
    sealed = none_unsealed;
    clash = refl;
    payloads = no_words_stand payloads no_words;
    history = rw empty refl;
  }

  pub new_board : kept ≡ replicate count 0 → SchedulerHas count scheduler → room ≡ 2 * count + 1 → room ≤ capacity → capped_limits limits ≡ limits →
      IsBoard capacity (record { limits = limits; history = history; room = room; kept = kept; clash = None; scheduler = scheduler; payloads = payloads })
  new_board zeros has asks grown capped =
      let all : length kept ≡ count = rw zeros (length_zeros count) in
      let nothing : sum kept ≡ 0 = rw zeros (sum_zeros count) in
      let owes = new_team_owes count in let first = room_of_a_new_team count in
      let enough : 0 + owed count [] + sum kept ≤ room = omega (arith, nothing, owes, first, asks) in
      record {
        stands = subst (λ (h : List Event). Stands (record { limits = limits; history = history; room = room; kept = kept; clash = None; scheduler = scheduler; payloads = payloads }) h) (sym (ap {A = List Event} reverse empty)) new_stands;
        members = subst (λ (n : ℕ). SchedulerHas n scheduler) (sym all) has;
        room = rw (all, empty) enough;
        space = grown;
        limits = capped;
      }
