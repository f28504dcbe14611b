-- What a member adds. (own)
use Rattle.std.specs.Prelude.{ℤ, List, [], ◌∷◌, Option, Some, None}
use Rattle.std.specs.Int.{cast_signed, int_wrapping_add, w64, w128}
use Rattle.gomp_types.specs.declared.reply.Reply.{Reply}
use Rattle.gomp_types.specs.declared.reply.Reply.TheVariants.{Finished, Copied}
use Rattle.gomp_region.specs.declared.statement.BlockConstruct.TheVariants.{Copy}
use Rattle.gomp_region.specs.declared.statement.Statement.{Statement}
use Rattle.gomp_region.specs.declared.statement.Statement.TheVariants.{Begin}
use Rattle.gomp_program.specs.declared.frame.Stage.{Stage}
use Rattle.gomp_program.specs.declared.frame.Stage.TheVariants.{Starting, Putting}

-- a total and a number more
abbrev pub plus_number : ℤ → ℤ → ℤ
plus_number total number = int_wrapping_add w128 total number

-- what a reply adds: the executor of a `copy` adds its number once that is put, any other member the word that it is handed
abbrev pub addition_at : Stage → Option Statement → Reply → Option ℤ
addition_at Starting (Some (Begin (Copy number))) (Copied (word ∷ [])) = Some (cast_signed w64 word)
addition_at Putting (Some (Begin (Copy number))) Finished = Some number
addition_at _ _ _ = None

-- a total with what a reply adds, if it adds anything
abbrev pub total_with : ℤ → Option ℤ → ℤ
total_with total (Some number) = plus_number total number
total_with total None = total

-- a total and those of the members of a nested region
abbrev pub joined_total : ℤ → List ℤ → ℤ
joined_total total [] = total
joined_total total (other ∷ others) = joined_total (plus_number total other) others
