use Rattle.std.proofs.Common.{rules}
use Rattle.gomp_serve.proofs.status.status_of_ending.Goals as goal

pub returns-in-Answered : goal.returns-in-Answered
returns-in-Answered c = search rules

pub returns-in-NoMemory : goal.returns-in-NoMemory
returns-in-NoMemory c = search rules

pub returns-in-InputFault : goal.returns-in-InputFault
returns-in-InputFault c = search rules

pub returns-in-OutputFault : goal.returns-in-OutputFault
returns-in-OutputFault c = search rules
