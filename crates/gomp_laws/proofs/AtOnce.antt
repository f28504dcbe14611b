-- The rows of calls that are done at once, once their member was answered that nothing is left of its share, if it has to be.
use Rattle.std.proofs.Common.{◌≡◌, ℕ, Bool, true, false, List, ◌++◌, refl, sym, ◌∙◌, inl}
use Rattle.gomp_types.specs.declared.reply.Reply.TheVariants.{Finished}
use Rattle.gomp_events.specs.declared.seen.Seen.{Seen}
use Rattle.gomp_events.specs.declared.event.Event.{Event}
use Rattle.gomp_types.specs.Tests.{Test}
use Rattle.gomp_events.specs.Laws.{Always}
use Rattle.gomp_laws.specs.Rules.{TeamRule}
use Rattle.gomp_events.specs.Seen.{seen_of}
use Rattle.gomp_model.specs.Past.{Past}
use Rattle.gomp_model.specs.Row.{at_once}
use Rattle.gomp_laws.proofs.Sound.{AreOwn, memoryless, IsAdmittedMember, IsSound, quiet}

-- the events are its member's, and keep the rule
pub record IsDone (drains : Bool) (tests : Seen → List Test) (events : ℕ → List Event → List Event) : Type 0 where
  pub own : (m : ℕ) (h : List Event) → AreOwn quiet m (events m h)
  pub keep : (m : ℕ) (p : Past) → IsAdmittedMember (record (at_once tests events) { drains = drains }) false m p → Always (TeamRule p.terms.members) p.events → Always (TeamRule p.terms.members) (events m p.events ++ p.events)
  pub no_memory : (seen : Seen) → memoryless (tests seen) ≡ true

pub at_once_sound : (drains : Bool) (tests : Seen → List Test) (events : ℕ → List Event → List Event) → IsDone drains tests events → IsSound (record (at_once tests events) { drains = drains })
at_once_sound drains tests events is = record {
  decided = λ m p a b x y. inl (x ∙ sym y);
  accepts = λ m p refusal x. cc;
  answered = λ repeated m p ready all. (Finished, refl);
  counts = λ repeated m p first count ready all may. absurd (cc);
  begins_own = λ m p. is.own m p.events;
  gives_own = λ m p reply. tt;
  begins_keep = is.keep;
  gives_keep = λ repeated m p reply ready may all. all;
  still = λ stays m p. absurd (cc);
  placed = λ stays m h. refl;
  outside = λ arrives m p fail. absurd (cc);
  tells = λ arrives m p reply may. absurd (cc);
  one_pass = λ arrives m p. absurd (cc);
  arrives_there = λ arrives m p. absurd (cc);
  waits_quietly = λ arrives m p. absurd (cc);
  lasts = λ repeated m p ready all may. absurd (cc);
  waits_for = λ key m p holds may. absurd (cc);
  tells_count = λ key repeated m count p holds ready all may. absurd (cc);
  runs = λ m p task code arg own may. absurd (cc);
  ends = λ m p task waiting may. absurd (cc);
  created = λ repeated m p task ready may. absurd (cc);
  cancelled = λ m p may. absurd (cc);
  dropped = λ repeated m p ready all may. absurd (cc);
  allowed = λ cancels m p. absurd (cc);
  no_memory = λ m p. (is.no_memory (seen_of m p.events), refl, refl, refl, λ repeated. refl);
  words_keep = λ puts repeated m p reply ready may all. absurd (cc);
}
