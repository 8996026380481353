-- `header::counter_in` meets its contract: seven bits more with each octet. Assumes nothing.
use Rattle.header.proofs.Reading.{counter_one, counter_two, counter_three}
use Rattle.header.proofs.counter_in.Goals as goal

pub returns-then-n-eq1 : goal.returns-then-n-eq1
returns-then-n-eq1 c = counter_one _ c.octet.ensures.0 c.octet.ensures.1 _ c.if-n-eq1.true

pub returns-then-n-eq2 : goal.returns-then-n-eq2
returns-then-n-eq2 c =
    let o = c.octet-2.ensures in
    counter_two _ c.octet.ensures.0 c.octet.ensures.1 _ c.if-n-eq1.false o.0 o.1 c.if-n-eq2.true

pub returns : goal.returns
returns c =
    let o = c.octet-2.ensures in
    counter_three _ c.octet.ensures.0 c.octet.ensures.1 _ c.if-n-eq1.false o.0 o.1 c.if-n-eq2.false c.octet-3.ensures.0 c.octet-3.ensures.1
