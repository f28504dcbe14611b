use Rattle.gomp_slots.proofs.NewSlots.{new_is_kept}
use Rattle.gomp_slots.proofs.new_table.new_table.Goals as goal

pub of_words-requires : goal.of_words-requires
of_words-requires c = new_is_kept (record { members = c.args.members }) c.requires.team.0 c.requires.team.1
