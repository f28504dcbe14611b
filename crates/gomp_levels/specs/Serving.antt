-- What forks the regions within another one, as its members have it round them. (own)
use Rattle.gomp_types.specs.declared.reply.Reply.{Reply}
use Rattle.gomp_course.specs.declared.forking.Nest.{Nest}
use Rattle.gomp_course.specs.declared.forking.Nested.{Nested}
use Rattle.gomp_course.specs.declared.forking.RegionAsked.{RegionAsked}
use Rattle.gomp_course.specs.Forkers.{ForkerView}

-- a function with these clauses forks regions, whatever it is lent for them: it can be called, and what comes of a region is as the relation has it
pub record IsServed {I P T S : Type 0} (pre : S → Nest I P T → Type 0) (post : S → Nest I P T → Nested I P T → Type 0) (forks : RegionAsked → ForkerView I P T → Reply → ForkerView I P T → Type 0) : Type 0 where
  pub callable : (lent : S) (nest : Nest I P T) → pre lent nest
  pub comes : (lent : S) (nest : Nest I P T) (nested : Nested I P T) → post lent nest nested → forks nest.asked nest.forker nested.reply nested.forker
