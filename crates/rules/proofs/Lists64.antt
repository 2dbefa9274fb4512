-- What the reader accepts has at most 64 ids in each list. Assumes nothing.
use Prim.Native.Nat.{ℕ, ◌≤◌}
use mathlib.Core.Path.{◌≡◌, subst}
use mathlib.Core.List.{List}
use native.Mathlib.Omega.{arith}
use lib.ListN.{length}
use Rattle.rules.specs.State.{ConfState}
use Rattle.rules.specs.Apply.{no_conf_state}
use Rattle.rules.specs.Wire.{Field}
use Rattle.rules.specs.Message.{Few64, taken, entered, read, message_read}
use Rattle.rules.proofs.Fields.{Each, EachRead, entered-each, read-each, message-each}

abbrev Few : List ℕ → Type 0
Few xs = length xs ≤ 64

each-few : (m : ConfState) → Each Few m → Few64 m
each-few m h = record { voters = h.0; learners = h.1.0; voters_outgoing = h.1.1.0; learners_next = h.1.1.1 }

pub entered-few : (f : Field) {m n : ConfState} → Few64 m → entered f m ≡ taken n → Few64 n
entered-few f {m} {n} h e =
    let k : Each Few m = (h.voters, (h.learners, (h.voters_outgoing, h.learners_next))) in
    each-few n (subst (EachRead Few) e (entered-each Few f m (λ old o xs d s. s) k))

pub few_none : Few64 no_conf_state
few_none = record { voters = omega arith; learners = omega arith; voters_outgoing = omega arith; learners_next = omega arith }

pub read-few : (l : List ℕ) {m : ConfState} → read l ≡ taken m → Few64 m
read-few l {m} e = each-few m (read-each Few (omega arith) (λ i f n c old o xs d s. s) l e)

-- what was read, a refused message being empty
pub message-few : (l : List ℕ) → Few64 (message_read (read l))
message-few l = each-few (message_read (read l)) (message-each Few (omega arith) (λ i f n c old o xs d s. s) l)
