-- What a nested region never is, of any programs, tools, replies and results.
use Rattle.std.proofs.Common.{ℕ, ◌≡◌, ◌≢◌, ◌+◌, ◌<◌, ◌≤◌, ◌⊎◌, Err, Some, false, inl, inr, refl, ap, ◌∙◌, arith, length}
use Rattle.gomp_types.specs.declared.reply.Reply.{Reply}
use Rattle.gomp_types.specs.declared.reply.Reply.TheVariants as replies
use Rattle.gomp_ompt.specs.declared.tool.Tool.{Ghosts as ToolGhosts}
use Rattle.gomp_course.specs.declared.forking.RegionAsked.{RegionAsked}
use Rattle.gomp_course.specs.declared.program.Program.{Ghosts as ProgramGhosts}
use Rattle.gomp_course.specs.Forkers.{ForkerView}
use Rattle.gomp_fork.specs.declared.report.RegionFault.{RegionFault}
use Rattle.gomp_fork.specs.declared.report.RegionRefusal.{RegionRefusal}
use Rattle.gomp_fork.specs.declared.report.RegionRefusal.TheVariants.{Refused, Unsettled}
use Rattle.gomp_fork.specs.Counts.{HoldCounts, counted_on, nothing_counted}
use Rattle.gomp_fork.specs.Teams.{ForksRelation}
use Rattle.gomp_nested.specs.Ledgers.{IsPool, PoolView}
use Rattle.gomp_nested.specs.Nested.{ForksWithin, HasForkedRegion, NotBegun, told, told_of_refusal}

module _ {P T : Type 0} (program : ProgramGhosts P) (tool : ToolGhosts T) (forks : ForksRelation P T) where
  -- its team has no number of an outermost region
  pub no_number_of_an_outermost_region : (asked : RegionAsked) (before after : ForkerView HoldCounts P T) (reply : Reply) (has : HasForkedRegion program tool forks asked before reply after) → has.number ≤ 2147483647 → ⊥
  no_number_of_an_outermost_region asked before after reply has low = absurd (omega (arith, has.above, low))

  -- whatever comes of one, the control variables of its member's region stay
  pub no_other_variables : (asked : RegionAsked) (before after : ForkerView HoldCounts P T) (reply : Reply) → ForksWithin program tool forks asked before reply after → after.icv ≢ before.icv → ⊥
  no_other_variables asked before after reply (inl (why, same)) other = other (ap (λ forker. forker.icv) same)
  no_other_variables asked before after reply (inr has) other = other has.icv_is

  -- by an if clause that is false its team has one member
  pub no_second_member_by_a_false_clause : (threads : ℕ) (before after : ForkerView HoldCounts P T) (reply : Reply)
      (has : HasForkedRegion program tool forks (record { num_threads = Some threads; if_clause = false }) before reply after) → 1 < has.size → ⊥
  no_second_member_by_a_false_clause threads before after reply has more = absurd (omega (arith, has.fits, more))

  -- each of its members has a program
  pub no_program_too_few : (asked : RegionAsked) (before after : ForkerView HoldCounts P T) (reply : Reply) (has : HasForkedRegion program tool forks asked before reply after) → length has.ran.progs ≢ has.size → ⊥
  no_program_too_few asked before after reply has other = other has.ran.many

  -- what its members held and freed, and those of the regions within it, is counted as its forker's
  pub no_hold_of_a_nested_team_is_lost : (asked : RegionAsked) (before after : ForkerView HoldCounts P T) (reply : Reply) (has : HasForkedRegion program tool forks asked before reply after)
      → after.inner.held ≢ before.inner.held + has.ran.left.counted.held → ⊥
  no_hold_of_a_nested_team_is_lost asked before after reply has other = other (ap (λ counts. counts.held) has.inner_is ∙ ap (λ counts. before.inner.held + counts.held) has.ran.counted_is)

  pub no_release_of_a_nested_team_is_lost : (asked : RegionAsked) (before after : ForkerView HoldCounts P T) (reply : Reply) (has : HasForkedRegion program tool forks asked before reply after)
      → after.inner.freed ≢ before.inner.freed + has.ran.left.counted.freed → ⊥
  no_release_of_a_nested_team_is_lost asked before after reply has other = other (ap (λ counts. counts.freed) has.inner_is ∙ ap (λ counts. before.inner.freed + counts.freed) has.ran.counted_is)

-- one that is finished has begun
pub not_finished_unbegun : {P T : Type 0} (before after : ForkerView HoldCounts P T) → NotBegun before replies.Finished after → ⊥
not_finished_unbegun before after (inl why, same) = absurd (cc why)
not_finished_unbegun before after (inr why, same) = absurd (cc why)

-- and has left a report
no_refusal_is_finished : (refusal : RegionRefusal) → told_of_refusal refusal ≡ replies.Finished → ⊥
no_refusal_is_finished (Refused refusal) is = absurd (cc is)
no_refusal_is_finished Unsettled is = absurd (cc is)

pub not_finished_without_a_report : {P T : Type 0} (fault : RegionFault P T) → told {P = P} {T = T} (Err fault) ≡ replies.Finished → ⊥
not_finished_without_a_report fault is = no_refusal_is_finished fault.refusal is

-- A pool counts nothing, and has as many parts as it says
pub nothing_is_counted_in_a_pool : (pool : PoolView) → IsPool pool → counted_on pool.held pool.freed ≢ nothing_counted → ⊥
nothing_is_counted_in_a_pool pool is some = some (rw (is.none_held, is.none_freed) refl)

pub no_part_of_a_pool_is_lost : (pool : PoolView) → IsPool pool → (pool.held.parts ≢ pool.left) ⊎ (pool.freed.parts ≢ pool.left) → ⊥
no_part_of_a_pool_is_lost pool is (inl other) = other is.held_are
no_part_of_a_pool_is_lost pool is (inr other) = other is.freed_are
