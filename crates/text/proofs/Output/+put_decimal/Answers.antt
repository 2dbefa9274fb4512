-- `Output::put_decimal` meets its contract. Assumes nothing.
use native.Mathlib.Omega.{arith}
use Rattle.text.proofs.Decimals.{decimal-one, decimal-more}
use Rattle.text.proofs.Outputs.{writes_then}
use Rattle.text.proofs.Output.+put_decimal.Goals as goal

pub returns-then-n-lt10 : goal.returns-then-n-lt10
returns-then-n-lt10 t c = rw (decimal-one c.if-n-lt10.true) c.put_byte.ensures

pub returns : goal.returns
returns t c = rw (decimal-more c.if-n-lt10.false c.ranges.n.fits) (writes_then (omega arith) c.put_decimal.ensures c.put_byte-2.ensures)
