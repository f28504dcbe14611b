use Rattle.std.proofs.Common.{rules}
use Rattle.gomp_service.proofs.notes.finish.Goals as goal

pub returns-clause-code : goal.returns-clause-code
returns-clause-code g c = search rules

pub returns-clause-noted : goal.returns-clause-noted
returns-clause-noted g c = search rules

pub returns-in_err-write_notes-clause-code : goal.returns-in_err-write_notes-clause-code
returns-in_err-write_notes-clause-code g c = search rules

pub returns-in_err-write_notes-clause-noted : goal.returns-in_err-write_notes-clause-noted
returns-in_err-write_notes-clause-noted g c = search rules
