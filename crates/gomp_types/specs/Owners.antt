-- Who holds a name or a lock. OpenMP API 5.2, sections 15.2 and 18.9.
use Rattle.std.specs.Prelude.{◌==◌, ◌&&◌, Bool}
use Rattle.gomp_types.specs.declared.task.Owner.{Owner}

-- one member of one team
abbrev pub same_member : Owner → Owner → Bool
same_member one other = one.team == other.team && one.member == other.member

-- one task of one member
abbrev pub same_owner : Owner → Owner → Bool
same_owner one other = one.team == other.team && (one.member == other.member && one.task == other.task)
