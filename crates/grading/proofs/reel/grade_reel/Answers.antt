use Rattle.records.proofs.Captured.{captured_is_found}
use Rattle.grading.proofs.reel.grade_reel.Goals as goal

pub returns-in_err-plan-clause-captured : goal.returns-in_err-plan-clause-captured
returns-in_err-plan-clause-captured c = captured_is_found

pub returns-clause-captured : goal.returns-clause-captured
returns-clause-captured c = captured_is_found
