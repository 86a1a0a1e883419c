-- The call that was answered so.
use Rattle.input_output.specs.Calls.{Call, moved, flushed, failed}
use Rattle.input_output.specs.declared.calls.Answer.{Answer}
use Rattle.input_output.specs.declared.calls.Answer.TheVariants as answer

abbrev pub call_of : Answer → Call
call_of (answer.Moved bytes) = moved bytes.now
call_of answer.Flushed = flushed
call_of answer.Failed = failed
