-- `write::put_message` meets its contract: each field starts where the one before it ends, and there is room for the rest. Assumes nothing.
use native.Mathlib.Omega.{arith}
use Rattle.confstate.proofs.Writing.{ready_1, ready_2, ready_3, ready_4, ready_5, message-put}
use Rattle.confstate.proofs.write.put_message.Goals as goal

pub put_list-a-requires : goal.put_list-a-requires
put_list-a-requires c = let l = c.args.out.now in
    let p = c.requires in
    ready_1 l (omega arith) p

pub put_list-b-requires : goal.put_list-b-requires
put_list-b-requires c = let l = c.args.out.now in
    let p = c.requires in
    ready_2 l (omega arith) p c.put_list-a.ensures

pub put_list-c-requires : goal.put_list-c-requires
put_list-c-requires c = let l = c.args.out.now in
    let p = c.requires in
    ready_3 l (omega arith) p c.put_list-a.ensures c.put_list-b.ensures

pub put_list-d-requires : goal.put_list-d-requires
put_list-d-requires c = let l = c.args.out.now in
    let p = c.requires in
    ready_4 l (omega arith) p c.put_list-a.ensures c.put_list-b.ensures c.put_list-c.ensures

pub bounds-words-260 : goal.bounds-words-260
bounds-words-260 c = omega (arith, c.requires.0.words)

pub put_flag-requires : goal.put_flag-requires
put_flag-requires c = let l = c.args.out.now in
    let p = c.requires in
    ready_5 l (omega arith) p c.put_list-a.ensures c.put_list-b.ensures c.put_list-c.ensures c.put_list-d.ensures

pub returns : goal.returns
returns c = let l = c.args.out.now in
    let p = c.requires in
    message-put l (omega arith) p c.put_list-a.ensures c.put_list-b.ensures c.put_list-c.ensures c.put_list-d.ensures c.put_flag.ensures
