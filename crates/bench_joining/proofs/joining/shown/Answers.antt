-- `bench_joining::joining::shown` meets its contract: the header's pair, and the octets held for it. Assumes nothing.
use mathlib.Core.Path.{◌≡◌, ap, ◌∙◌}
use Prim.Native.Nat.{ℕ}
use Rattle.reassembly.specs.Checks.{fragment_in}
use Rattle.reassembly.proofs.Headed.{fields_in, fields_are, fields_none}
use Rattle.bench_joining.proofs.LineLaws.{shown_is}
use Rattle.bench_joining.proofs.joining.shown.Goals as goal
use Rattle.bench_joining.proofs.joining.shown.Goals.{in-Ok, in-Err}

pub overflow_sub-number : goal.overflow_sub-number
overflow_sub-number c = fields_in c.args.lsdu.now _ _ c.in-Ok.ensures.answer

pub returns : goal.returns
returns c =
    let s = c.args.lsdu.now in
    elim c.match-read.branch [
      | in-Ok w ↦
          let f = fields_are s _ _ w.in-Ok.ensures.answer in
          let n : c.match-read.number.0 ≡ (fragment_in s).number = ap (λ (p : ℕ × ℕ). p.0) w.number-is ∙ (λ i. (f i).number) in
          let o : c.match-read.number.1 ≡ (fragment_in s).octets = ap (λ (p : ℕ × ℕ). p.1) w.number-is ∙ (λ i. (f i).octets) in
          shown_is _ _ _ _ n o c.held_for-held.ensures c.columns.ensures
      | in-Err w ↦
          let f = fields_none s _ w.in-Err.ensures.answer in
          let n : c.match-read.number.0 ≡ (fragment_in s).number = ap (λ (p : ℕ × ℕ). p.0) w.number-is ∙ (λ i. (f i).number) in
          let o : c.match-read.number.1 ≡ (fragment_in s).octets = ap (λ (p : ℕ × ℕ). p.1) w.number-is ∙ (λ i. (f i).octets) in
          shown_is _ _ _ _ n o c.held_for-held.ensures c.columns.ensures
    ]
