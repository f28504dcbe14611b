-- Records that a tool gets one after another.
use Rattle.std.proofs.Common.{ℕ, ◌+◌, ◌<◌, List, [], ◌∷◌, ◌++◌, length, take, get_or, refl, sym, subst, add-one}
use Rattle.std.proofs.Math.Seq.{take-suc}
use Rattle.gomp_ompt.specs.declared.record.Record.{Record}
use Rattle.gomp_ompt.specs.Tools.{AfterEach}

-- the records so far, and then one more
after_one_more : {T : Type 0} (gives : T → Record → T → Type 0) (old between new : T) (events : List Record) (event : Record) → AfterEach gives old events between → gives between event new → AfterEach gives old (events ++ event ∷ []) new
after_one_more {T} gives old between new [] event same given = let P : T → Type 0 = λ tool. gives tool event new in (new, subst P (sym same) given, refl)
after_one_more gives old between new (other ∷ events) event so_far given = (so_far.0, so_far.1, after_one_more gives so_far.0 between new events event so_far.2 given)

-- a tool that no record changes is what it was after any
pub unmoved_after_each : {T : Type 0} (gives : T → Record → T → Type 0) (tool : T) (events : List Record) → ((event : Record) → gives tool event tool) → AfterEach gives tool events tool
unmoved_after_each gives tool [] stays = refl
unmoved_after_each gives tool (event ∷ events) stays = (tool, stays event, unmoved_after_each gives tool events stays)

-- the first `k` records, and then the one at place `k`, from 0
pub after_next_record : {T : Type 0} (gives : T → Record → T → Type 0) (old between new : T) (events : List Record) (k : ℕ) (default : Record) → k < length events → AfterEach gives old (take k events) between → gives between (get_or events k default) new → AfterEach gives old (take (k + 1) events) new
after_next_record gives old between new events k default below so_far given = rw (add-one, take-suc events k default below) (after_one_more gives old between new (take k events) (get_or events k default) so_far given)
