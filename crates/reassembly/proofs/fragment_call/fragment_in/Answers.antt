-- Reading the header answers its fields or a refusal, and the definition takes the same two ways.
use Rattle.std.proofs.Common.{sym}
use Rattle.std.proofs.lemmas.Result.{err_from_is_err_and}
use Rattle.reassembly.proofs.Headed.{fields_in, fields_are, fields_none, refused_5}
use Rattle.reassembly.proofs.fragment_call.fragment_in.Goals as goal

pub returns-in_err-read : goal.returns-in_err-read
returns-in_err-read c =
    let s = c.args.lsdu.now in
    let p = err_from_is_err_and c.from_residual.result c.from_residual.ensures.1 in
    let fields = fields_none s _ c.in_err-read.ensures.answer in
    rw (p.1, p.2) (record { fields = fields; refusal = rw (sym fields) (refused_5 s _ c.in_err-read.ensures.answer) })

pub overflow_sub-result : goal.overflow_sub-result
overflow_sub-result c = fields_in c.args.lsdu.now _ _ c.in_ok-read.ensures.answer

pub returns : goal.returns
returns c =
    let fields = fields_are c.args.lsdu.now _ _ c.in_ok-read.ensures.answer in
    record { fields = fields; refusal = rw (sym fields) }
