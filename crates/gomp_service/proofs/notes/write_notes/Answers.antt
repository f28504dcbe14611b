use Rattle.std.proofs.Common.{rules}
use Rattle.gomp_service.proofs.notes.write_notes.Goals as goal

pub returns-in-Command : goal.returns-in-Command
returns-in-Command g c = search rules

pub returns-in-Ignored : goal.returns-in-Ignored
returns-in-Ignored g c = search rules

pub returns-in-InputFault : goal.returns-in-InputFault
returns-in-InputFault g c = search rules

pub returns-in-NoMemory : goal.returns-in-NoMemory
returns-in-NoMemory g c = search rules

pub returns-in-Nothing : goal.returns-in-Nothing
returns-in-Nothing g c = search rules
