-- A list of steps and their replies, one after another.
use Rattle.std.proofs.Common.{◌≡◌, List, [], ◌∷◌, ◌++◌, ℕ, length, refl, ap, ◌∙◌, sym, arith}
use Rattle.std.proofs.lemmas.List.{map-append, length-map}
use Rattle.gomp_types.specs.declared.call.Step.{Step}
use Rattle.gomp_types.specs.declared.reply.Reply.{Reply}
use Rattle.gomp_types.specs.Limits.{standard}
use Rattle.gomp_model.specs.Team.{Record, record_after}
use Rattle.gomp_icv.specs.Variables.{Variables}
use Rattle.gomp_core.specs.Resolved.{resolved_step, resolved_steps, record_of}
use Rattle.gomp_core.specs.Stands.{TeamView, terms_of, standard_terms}

pub record_grows : (steps : List Step) (replies : List Reply) (step : Step) (reply : Reply) (before : Record) → length replies ≡ length steps →
    record_after (steps ++ step ∷ []) (replies ++ reply ∷ []) before ≡ (step, reply) ∷ record_after steps replies before
record_grows [] [] step reply before e = refl
record_grows [] (r ∷ replies) step reply before e = absurd (omega arith)
record_grows (s ∷ steps) [] step reply before e = absurd (omega arith)
record_grows (s ∷ steps) (r ∷ replies) step reply before e = record_grows steps replies step reply ((s, r) ∷ before) (omega arith)

pub resolved_grows : (icv : Variables) (steps : List Step) (replies : List Reply) (step : Step) (reply : Reply) → length replies ≡ length steps →
    record_of icv (steps ++ step ∷ []) (replies ++ reply ∷ []) ≡ (resolved_step icv step, reply) ∷ record_of icv steps replies
resolved_grows icv steps replies step reply each =
    ap (λ (all : List Step). record_after all (replies ++ reply ∷ []) []) (map-append (resolved_step icv) steps (step ∷ []))
    ∙ record_grows (resolved_steps icv steps) replies (resolved_step icv step) reply [] (each ∙ sym (length-map steps (resolved_step icv)))

pub moved_on : (yielded rest : List Step) (step : Step) → yielded ++ (step ∷ rest) ≡ (yielded ++ step ∷ []) ++ rest
moved_on [] rest step = refl
moved_on (s ∷ yielded) rest step = ap (λ (xs : List Step). s ∷ xs) (moved_on yielded rest step)

pub all_done : (yielded rest steps : List Step) → yielded ++ rest ≡ steps → length rest ≡ 0 → yielded ≡ steps
all_done [] [] steps e none = e
all_done (s ∷ yielded) [] [] e none = absurd (cc)
all_done (s ∷ yielded) [] (t ∷ steps) e none =
    let first : s ≡ t = cc in
    let later : yielded ++ [] ≡ steps = cc in
    rw (first, all_done yielded [] steps later refl) refl
all_done yielded (s ∷ rest) steps e none = absurd (omega arith)

-- the terms of a team of this size with the standard limits
pub terms_are : {S : Type 0} (team : TeamView S) (count : ℕ) (icv : Variables) → length team.waits ≡ count → team.icv ≡ icv → team.board.limits ≡ standard → terms_of team ≡ standard_terms count icv
terms_are team count icv members same limits = rw (members, same, limits) refl
