-- Members that have begun their part of a region.
use Rattle.std.proofs.Common.{ℕ, ◌+◌, ◌++◌, List, [], ◌∷◌, sym, subst, ap, ◌∙◌, map, length, arith}
use Rattle.std.proofs.lemmas.List.{map-append}
use Rattle.gomp_ompt.specs.declared.tool.Tool.{Ghosts as ToolGhosts}
use Rattle.gomp_team.specs.Members.{MemberView, TeamView}
use Rattle.gomp_team_region.specs.Regions.{IsNewMember}
use Rattle.gomp_fork.specs.Teams.{EachHasBegun, EndView, HasBegun, members_of}

-- a member that has begun is a new one
pub still_new : {T : Type 0} (tool : ToolGhosts T) (n m : ℕ) (team : TeamView) (before after : MemberView T) → HasBegun tool n m before after → IsNewMember team m before → IsNewMember team m after
still_new tool n m team before after begun new = record {
  own = ap (λ member. member.own) begun.member_is ∙ new.own;
  icv = ap (λ member. member.icv) begun.member_is ∙ new.icv;
  seat = rw begun.member_is new.seat;
  events = ap (λ member. member.events) begun.member_is ∙ new.events;
  held = ap (λ member. member.held) begun.member_is ∙ new.held;
  freed = ap (λ member. member.freed) begun.member_is ∙ new.freed;
}

-- one more has begun, behind the others
one_more_has_begun : {T : Type 0} (tool : ToolGhosts T) (n m : ℕ) (befores afters : List (MemberView T)) (before after : MemberView T)
    → EachHasBegun tool n m befores afters → HasBegun tool n (m + length befores) before after → EachHasBegun tool n m (befores ++ before ∷ []) (afters ++ after ∷ [])
one_more_has_begun tool n m [] [] before after each one = (subst (λ k. HasBegun tool n k before after) (omega arith) one, tt)
one_more_has_begun tool n m [] (other ∷ afters) before after each one = absurd each
one_more_has_begun tool n m (other ∷ befores) [] before after each one = absurd each
one_more_has_begun tool n m (first ∷ befores) (begun ∷ afters) before after (this, each) one =
    (this, one_more_has_begun tool n (m + 1) befores afters before after each (subst (λ k. HasBegun tool n k before after) (omega arith) one))

-- a job for it, behind the others' ones
pub job_behind_has_begun : {P T J : Type 0} (tool : ToolGhosts T) (n : ℕ) (start_of : J → EndView P T) (befores : List (MemberView T)) (jobs : List J) (before : MemberView T) (job : J)
    → EachHasBegun tool n 0 befores (members_of (map start_of jobs)) → HasBegun tool n (length befores) before (start_of job).member
    → EachHasBegun tool n 0 (befores ++ before ∷ []) (members_of (map start_of (jobs ++ job ∷ [])))
job_behind_has_begun tool n start_of befores jobs before job each one =
    subst (EachHasBegun tool n 0 (befores ++ before ∷ []))
    (sym (ap members_of (map-append start_of jobs (job ∷ [])) ∙ map-append (λ end. end.member) (map start_of jobs) (start_of job ∷ [])))
    (one_more_has_begun tool n 0 befores (members_of (map start_of jobs)) before (start_of job).member each
    (subst (λ k. HasBegun tool n k before (start_of job).member) (omega arith) one))
