-- Each step of an end keeps the rule of the line. (own)
use Rattle.std.proofs.Common.{◌≡◌, ◌⊎◌, inl, inr, ℕ, zero, suc, [], ◌∷◌, refl, sym, subst, Ok, Err}
use Rattle.std.specs.Prelude.{⊤}
use mathlib.Core.Option.{some, some-ne-none, some-injective}
use lib.ListN.{get_elem?}
use Rattle.crossbeam_queue.specs.Fifo.{Pushes, Pops, Forks}
use Rattle.gomp_crew.specs.declared.line.Hand.{Hand}
use Rattle.gomp_crew.specs.declared.line.Hand.TheVariants.{Whole, Free, Asked, Idle, Busy}
use Rattle.gomp_crew.specs.Hands.{OnAsked, OnBusy, KeepsLine, HasAsked, HasTaken, HasGot}

module _ {J : Type 0} where
  -- which of two views an end has
  one_of_two_ends : (caller worker v : Hand J) (port : ℕ) → get_elem? (caller ∷ worker ∷ []) port ≡ some v → ((port ≡ 0) × (caller ≡ v)) ⊎ ((port ≡ 1) × (worker ≡ v))
  one_of_two_ends caller worker v zero at = inl (refl, some-injective caller v at)
  one_of_two_ends caller worker v (suc zero) at = inr (refl, some-injective worker v at)
  one_of_two_ends caller worker v (suc (suc n)) at = absurd (some-ne-none v (sym at))

  one_end_alone : (only v : Hand J) (port : ℕ) → get_elem? (only ∷ []) port ≡ some v → (port ≡ 0) × (only ≡ v)
  one_end_alone only v zero at = (refl, some-injective only v at)
  one_end_alone only v (suc n) at = absurd (some-ne-none v (sym at))

module _ {J O : Type 0} (kept : J → O → Type 0) where
  pub line_begins : KeepsLine kept [] (Whole ∷ [])
  line_begins = tt

  pub line_gets_two_ends : (port : ℕ) (v : Hand J) → v ≡ Whole → Forks (KeepsLine kept) port v Free Idle
  line_gets_two_ends port v is [] (Whole ∷ []) keeps at = rw ((one_end_alone Whole v port at).0) tt
  line_gets_two_ends port v is [] (Free ∷ Idle ∷ []) keeps at = elim (one_of_two_ends Free Idle v port at) [ inl here ↦ absurd (cc) | inr here ↦ absurd (cc) ]
  line_gets_two_ends port v is [] (Asked job ∷ Busy taken ∷ []) keeps at = elim (one_of_two_ends (Asked job) (Busy taken) v port at) [ inl here ↦ absurd (cc) | inr here ↦ absurd (cc) ]
  line_gets_two_ends port v is (item ∷ []) (Asked job ∷ Idle ∷ []) keeps at = elim (one_of_two_ends (Asked job) Idle v port at) [ inl here ↦ absurd (cc) | inr here ↦ absurd (cc) ]
  line_gets_two_ends port v is _ _ keeps at = absurd keeps

  pub asking_keeps_line : (n port : ℕ) (v : Hand J) (job : J) → v ≡ Free → Pushes (KeepsLine kept) n port v (Err job) (HasAsked {O = O} (Err job))
  asking_keeps_line n port v job is [] (Whole ∷ []) room keeps at = let here = one_end_alone Whole v port at in absurd (cc)
  asking_keeps_line n port v job is [] (Free ∷ Idle ∷ []) room keeps at = elim (one_of_two_ends Free Idle v port at) [ inl here ↦ rw (here.0) (Asked job, refl, refl) | inr here ↦ absurd (cc) ]
  asking_keeps_line n port v job is [] (Asked other ∷ Busy taken ∷ []) room keeps at = elim (one_of_two_ends (Asked other) (Busy taken) v port at) [ inl here ↦ absurd (cc) | inr here ↦ absurd (cc) ]
  asking_keeps_line n port v job is (item ∷ []) (Asked other ∷ Idle ∷ []) room keeps at = elim (one_of_two_ends (Asked other) Idle v port at) [ inl here ↦ absurd (cc) | inr here ↦ absurd (cc) ]
  asking_keeps_line n port v job is _ _ room keeps at = absurd keeps

  pub taking_keeps_line : (port : ℕ) (v : Hand J) → v ≡ Idle → Pops (KeepsLine kept) port v (HasTaken kept)
  taking_keeps_line port v is (Ok outcome) [] (Asked job ∷ Idle ∷ []) keeps at = elim (one_of_two_ends (Asked job) Idle v port at) [ inl here ↦ absurd (cc) | inr here ↦ rw (here.0) (Busy job, refl, keeps) ]
  taking_keeps_line port v is (Err sent) [] (Asked job ∷ Idle ∷ []) keeps at = elim (one_of_two_ends (Asked job) Idle v port at) [ inl here ↦ absurd (cc) | inr here ↦ rw (here.0) (Busy sent, keeps, refl) ]
  taking_keeps_line port v is _ _ _ keeps at = absurd keeps

  pub answering_keeps_line : (n port : ℕ) (v : Hand J) (outcome : O) → OnBusy v (λ job. kept job outcome) → Pushes (KeepsLine kept) n port v (Ok outcome) (λ after. after ≡ Idle)
  answering_keeps_line n port (Busy job) outcome so [] (Whole ∷ []) room keeps at = let here = one_end_alone Whole (Busy job) port at in absurd (cc)
  answering_keeps_line n port (Busy job) outcome so [] (Free ∷ Idle ∷ []) room keeps at = elim (one_of_two_ends Free Idle (Busy job) port at) [ inl here ↦ absurd (cc) | inr here ↦ absurd (cc) ]
  answering_keeps_line n port (Busy job) outcome so [] (Asked sent ∷ Busy taken ∷ []) room keeps at = elim (one_of_two_ends (Asked sent) (Busy taken) (Busy job) port at) [ inl here ↦ absurd (cc) | inr here ↦ rw (here.0) (Idle, (let same : job ≡ sent = cc in subst (λ j. kept j outcome) same so), refl) ]
  answering_keeps_line n port (Busy job) outcome so (item ∷ []) (Asked sent ∷ Idle ∷ []) room keeps at = elim (one_of_two_ends (Asked sent) Idle (Busy job) port at) [ inl here ↦ absurd (cc) | inr here ↦ absurd (cc) ]
  answering_keeps_line n port (Busy job) outcome so _ _ room keeps at = absurd keeps
  answering_keeps_line n port _ outcome so _ _ room keeps at = absurd so

  pub fetching_keeps_line : (port : ℕ) (v : Hand J) → OnAsked v (λ job. ⊤) → Pops (KeepsLine kept) port v (HasGot kept v)
  fetching_keeps_line port (Asked job) so (Ok outcome) [] (Asked sent ∷ Idle ∷ []) keeps at = elim (one_of_two_ends (Asked sent) Idle (Asked job) port at) [ inl here ↦ rw (here.0) (Free, tt, (refl, let same : sent ≡ job = cc in subst (λ j. kept j outcome) same keeps)) | inr here ↦ absurd (cc) ]
  fetching_keeps_line port (Asked job) so (Err back) [] (Asked sent ∷ Idle ∷ []) keeps at = elim (one_of_two_ends (Asked sent) Idle (Asked job) port at) [ inl here ↦ rw (here.0) (Free, tt, (refl, cc)) | inr here ↦ absurd (cc) ]
  fetching_keeps_line port (Asked job) so _ _ _ keeps at = absurd keeps
  fetching_keeps_line port _ so _ _ _ keeps at = absurd so
