-- What a reply leads to, by what comes next.
use Rattle.std.proofs.Common.{◌≡◌, ℕ, ℤ, Some, None, refl, ap, sym, ◌∙◌, subst}
use Rattle.gomp_types.specs.declared.call.Call.TheVariants.{Resume, Stop}
use Rattle.gomp_types.specs.declared.reply.Reply.{Reply}
use Rattle.gomp_region.specs.declared.script.Script.{Script}
use Rattle.gomp_program.specs.declared.progress.Progress.{Progress}
use Rattle.gomp_program.specs.declared.replies.Sequel.TheVariants.{ItsCall, SameCall, Statements, Stopping}
use Rattle.gomp_program.specs.Leaving.{LeavesBlock}
use Rattle.gomp_program.specs.Moves.{Lead, Executes, Calls, Leaving, Resumes, Stops, IsLed}
use Rattle.gomp_program.specs.Next.{HasCome, call_behind_lead}
use Rattle.gomp_program.specs.Passing.{ComesTo, Point, arrives, behind_point, place_at, point_in}
use Rattle.gomp_program.specs.Places.{Place, place_in, statement_at}
use Rattle.gomp_program.specs.Programs.{ProgramView, place_of}
use Rattle.gomp_program.specs.Totals.{addition_at, total_with}

-- a statement that makes a call ends the way
pub has_arrived : (script : Script) (member : ℕ) (point same_point : Point) (place : Place) → behind_point script member point ≡ None → same_point ≡ point → place ≡ place_at script same_point → ComesTo script member point place same_point.total
has_arrived script member point same_point place none same stands =
    subst (λ (end : Place). ComesTo script member point end same_point.total) (sym (stands ∙ ap (place_at script) same))
    (subst (λ (sum : ℤ). ComesTo script member point (place_at script point) sum) (sym (ap (λ (p : Point). p.total) same)) (arrives point none))

-- statements are executed from where the reply leads
pub led_to_statements : (lead : Lead) (reply : Reply) (start end : Progress) (old new : ProgramView) → IsLed lead Statements start end → ComesTo old.script old.member (point_in end old.total) (place_of new) new.total → HasCome lead reply old new × (None ≡ call_behind_lead lead)
led_to_statements (Executes line iteration frames) reply start end old new led comes = (rw (led.1, led.2, led.3) at comes, refl)
led_to_statements (Calls place) reply start end old new led comes = absurd (let other = led.0 in cc)
led_to_statements (Leaving script exit) reply start end old new led comes = absurd (let other = led.0 in cc)
led_to_statements (Resumes place) reply start end old new led comes = absurd (let other = led.0 in cc)
led_to_statements Stops reply start end old new led comes = absurd (let other = led.0 in cc)

-- a call is made where the reply leads
pub led_to_call : (lead : Lead) (reply : Reply) (start end : Progress) (old new : ProgramView) → IsLed lead ItsCall start end → place_in start ≡ place_of old → place_of new ≡ place_in end → new.total ≡ total_with old.total (addition_at old.stage (statement_at old.script old.line) reply) → HasCome lead reply old new × (None ≡ call_behind_lead lead)
led_to_call (Executes line iteration frames) reply start end old new led from to adds = absurd (let other = led.0 in cc)
led_to_call (Calls place) reply start end old new led from to adds = ((to ∙ led.1, adds), refl)
led_to_call (Leaving script exit) reply start end old new led from to adds = ((subst (λ (place : Place). LeavesBlock script exit (place_of old) place) (sym to) (subst (λ (place : Place). LeavesBlock script exit place (place_in end)) from (led.1)), adds), refl)
led_to_call (Resumes place) reply start end old new led from to adds = absurd (let other = led.0 in cc)
led_to_call Stops reply start end old new led from to adds = absurd (let other = led.0 in cc)

-- the same call is asked about again there
pub led_to_resume : (lead : Lead) (reply : Reply) (start end : Progress) (old new : ProgramView) → IsLed lead SameCall start end → place_of new ≡ place_in end → new.total ≡ old.total → HasCome lead reply old new × (Some Resume ≡ call_behind_lead lead)
led_to_resume (Executes line iteration frames) reply start end old new led to adds = absurd (let other = led.0 in cc)
led_to_resume (Calls place) reply start end old new led to adds = absurd (let other = led.0 in cc)
led_to_resume (Leaving script exit) reply start end old new led to adds = absurd (let other = led.0 in cc)
led_to_resume (Resumes place) reply start end old new led to adds = ((to ∙ led.1, adds), refl)
led_to_resume Stops reply start end old new led to adds = absurd (let other = led.0 in cc)

-- or the member stops
pub led_to_stop : (lead : Lead) (reply : Reply) (start end : Progress) (old new : ProgramView) → IsLed lead Stopping start end → place_in start ≡ place_of old → place_of new ≡ place_in end → new.total ≡ old.total → HasCome lead reply old new × (Some Stop ≡ call_behind_lead lead)
led_to_stop (Executes line iteration frames) reply start end old new led from to adds = absurd (let other = led.0 in cc)
led_to_stop (Calls place) reply start end old new led from to adds = absurd (let other = led.0 in cc)
led_to_stop (Leaving script exit) reply start end old new led from to adds = absurd (let other = led.0 in cc)
led_to_stop (Resumes place) reply start end old new led from to adds = absurd (let other = led.0 in cc)
led_to_stop Stops reply start end old new led from to adds = ((to ∙ led.1 ∙ from, adds), refl)
