use Rattle.std.proofs.Common.{Err, ap}
use Rattle.std.proofs.lemmas.Result.{err_from_is_err_and}
use Rattle.lines.specs.Texts.{lines_of}
use Rattle.books.specs.Held.{draft_of}
use Rattle.books.proofs.Answered.{too_long, text_read, reads_on, stops_at, ends_at, faithful}
use Rattle.books.proofs.reading.read_book.Goals as goal

pub returns-in-Err : goal.returns-in-Err
returns-in-Err c =
    let answer = too_long c.args.text.now _ _ _ c.in-Err.ensures.0 c.in-Err.ensures.1 c.begin-draft.ensures c.from.ensures in
    record { answer = answer; faithful = faithful c.args.text.now (Err (c.begin-draft.result, c.from.result)) c.begin-draft.new.memory answer }

pub loop-line-init : goal.loop-line-init
loop-line-init c = cc (text_read c.args.text.now c.in_default.ensures)

pub loop-line-preserved : goal.loop-line-preserved
loop-line-preserved c = cc (reads_on (draft_of c.loop-line.draft c.loop-line.memory) _ _ _ c.in-Some.ensures.steps.line _ c.in_ok-draft.ensures.taken)

pub returns-in_err-draft : goal.returns-in_err-draft
returns-in_err-draft c =
    let p = err_from_is_err_and c.from_residual.result c.from_residual.ensures.1 in
    let answer = stops_at c.args.text.now _ _ _ _ _ _ _ c.loop-line.invariant c.in-Some.ensures.steps.line c.in_err-draft.ensures.taken in
    rw (p.1, p.2) (record { answer = answer; faithful = faithful c.args.text.now (Err c.in_err-draft.field-0.0) c.take_line.new.memory answer })

pub returns : goal.returns
returns c =
    let answer = ends_at c.args.text.now _ _ _ _ c.loop-line.invariant (ap lines_of c.in-None.ensures.steps.0) c.close.ensures in
    record { answer = answer; faithful = faithful c.args.text.now c.close.result c.loop-line.memory answer }
