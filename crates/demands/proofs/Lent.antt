-- The contracts of text, listing, wire, confstate, comparison and calls: two results that one allows are equal, and so is what a lent output then
-- holds. `Learnt` is as in proofs/Settled.antt. Assumes nothing.
use Prim.Native.Nat.{ℕ}
use Prim.{Unit}
use mathlib.Core.Path.{◌≡◌, refl, sym, ◌∙◌}
use mathlib.Core.List.{List}
use Rattle.std.specs.Prelude.{Result}
use Rattle.confstate.specs.Refusals.{told}
use Rattle.confstate.specs.Unwritten.{answered, said}
use Rattle.confstate.specs.declared.read.Refusal as read
use Rattle.confstate.specs.declared.write.Unwritten.{Unwritten}
use Rattle.confstate.proofs.Once.{told_once, written_once}
use Rattle.text.specs.Put.{Put}
use Rattle.text.specs.Writes.{Writes}
use Rattle.text.specs.declared.Output.{Output}
use Rattle.text.proofs.Output.new.Reads as text-new
use Rattle.text.proofs.Output.put_byte.Reads as text-put-byte
use Rattle.text.proofs.Output.put_bytes.Reads as text-put-bytes
use Rattle.text.proofs.Output.put_decimal.Reads as text-put-decimal
use Rattle.text.proofs.Output.put_group.Reads as text-put-group
use Rattle.listing.proofs.dimecandle_replay.Reads as listing-replay
use Rattle.listing.proofs.Session.begin.Reads as listing-begin
use Rattle.listing.proofs.Session.stops.Reads as listing-stops
use Rattle.listing.proofs.Session.turn.Reads as listing-turn
use Rattle.listing.proofs.put_stopped.Reads as listing-put-stopped
use Rattle.listing.proofs.put_ending.Reads as listing-put-ending
use Rattle.listing.proofs.number_at.Reads as listing-number-at
use Rattle.listing.proofs.line.put_answer.Reads as listing-put-answer
use Rattle.listing.specs.declared.Session.{Session}
use Rattle.calls.proofs.dimecandle_call.Reads as calls-call
use Rattle.calls.proofs.dimecandle_unplug.Reads as calls-unplug
use Rattle.calls.proofs.dimecandle_read_conf_state.Reads as calls-read-conf-state
use Rattle.calls.proofs.dimecandle_write_conf_state.Reads as calls-write-conf-state
use Rattle.calls.proofs.dimecandle_compare.Reads as calls-compare
use Rattle.wire.proofs.read_varint.Reads as wire-read-varint
use Rattle.wire.proofs.size.Reads as wire-size
use Rattle.wire.proofs.put_varint.Reads as wire-put-varint
use Rattle.confstate.proofs.read.read.Reads as confstate-read
use Rattle.confstate.proofs.write.write.Reads as confstate-write
use Rattle.confstate.proofs.read.Refusal.number.Reads as confstate-read-number
use Rattle.confstate.proofs.read.RefusalFromFault.from.Reads as confstate-refusal-from
use Rattle.confstate.proofs.write.Unwritten.number.Reads as confstate-write-number
use Rattle.comparison.proofs.put_comparison.Reads as comparison-put
use Rattle.comparison.proofs.compare.Reads as comparison-compare
use Rattle.calls.proofs.read.word.Reads as calls-word
use Rattle.calls.proofs.read.holds.Reads as calls-holds
use Rattle.calls.proofs.read.state.Reads as calls-state
use Rattle.calls.proofs.read.change_list.Reads as calls-change-list
use Rattle.calls.proofs.read.conf.Reads as calls-conf
use Rattle.calls.proofs.read.log.Reads as calls-log
use Rattle.calls.proofs.read.conf_state.Reads as calls-conf-state
use Rattle.calls.proofs.write.put_reply.Reads as calls-put-reply
use Rattle.demands.proofs.Settled.{Settles, SettlesLeft, equation}

-- what an output holds, and its place
abbrev pub held_by : Output → List ℕ × ℕ
held_by o = (o.bytes.now, o.at)

-- the place after a text, and the slice
put-settled : {old text : List ℕ} {at : ℕ} {m n : List ℕ} {p q : ℕ} → Put old at text m p → Put old at text n q → (p ≡ q) × (m ≡ n)
put-settled {m = m} {n = n} {p = p} {q = q} a b = (equation p q a.end b.end, equation m n a.bytes b.bytes)

-- an output after a text
written-settled : {old p q : Output} {text : List ℕ} {z y : Unit {0}} → Writes old text p → Writes old text q → (z ≡ y) × (held_by p ≡ held_by q)
written-settled a b = let p = put-settled a.put b.put in
    (refl, λ i. (p.1 i, p.0 i))

-- an entry: what it returns, and what it leaves
both : {A B : Type 0} {v : A} {w : B} {r q : A} {m n : B} → (r ≡ v) × (m ≡ w) → (q ≡ v) × (n ≡ w) → (r ≡ q) × (m ≡ n)
both {r = r} {q = q} {m = m} {n = n} a b = (equation r q a.0 b.0, equation m n a.1 b.1)

-- ** text

pub record Texts : Type 0 where
  -- what it holds; it stands where the lent slice does
  pub new : (κs : _) (a : _) (z y : _) (e d : _) → text-new.Learnt κs a z e → text-new.Learnt κs a y d → held_by z ≡ held_by y
  pub put_byte : SettlesLeft text-put-byte.Learnt (λ κs e. held_by e.0.now)
  pub put-bytes : SettlesLeft text-put-bytes.Learnt (λ κs e. held_by e.0.now)
  pub put-decimal : SettlesLeft text-put-decimal.Learnt (λ κs e. held_by e.0.now)
  pub put-group : SettlesLeft text-put-group.Learnt (λ κs e. held_by e.0.now)

pub text : Texts
text = record {
  new = λ κs a z y e d h k i. (equation z.bytes.now y.bytes.now h.1.0 k.1.0 i, equation z.at y.at h.1.1 k.1.1 i);
  put_byte = search written-settled;
  put-bytes = search written-settled;
  put-decimal = search written-settled;
  put-group = search written-settled;
}

-- ** listing

abbrev pub left_by : Session → Output → Session × (List ℕ × ℕ)
left_by z o = (z, held_by o)

pub record Listings : Type 0 where
  pub dimecandle_replay : SettlesLeft listing-replay.Learnt (λ κs e. e.1.0.now)
  pub begin : Settles listing-begin.Learnt
  pub stops : Settles listing-stops.Learnt
  -- the session, and the output
  pub turn : SettlesLeft listing-turn.Learnt (λ κs e. left_by e.0.now e.1.0.now)
  pub put_stopped : SettlesLeft listing-put-stopped.Learnt (λ κs e. held_by e.0.now)
  pub put-ending : SettlesLeft listing-put-ending.Learnt (λ κs e. held_by e.0.now)
  pub number_at : Settles listing-number-at.Learnt
  pub put-answer : SettlesLeft listing-put-answer.Learnt (λ κs e. held_by e.0.now)

-- a session and an output after a turn
turned : {old p q : Output} {text : List ℕ} {v t u : Session} {z y : Unit {0}} → Writes old text p × (t ≡ v) → Writes old text q × (u ≡ v) → (z ≡ y) × (left_by t p ≡ left_by u q)
turned {t = t} {u = u} a b =
    let p = put-settled a.0.put b.0.put in
    (refl, λ i. (equation t u a.1 b.1 i, (p.1 i, p.0 i)))

pub listing : Listings
listing = search (equation, written-settled, turned, both)

-- ** wire, confstate and comparison

pub record Messages : Type 0 where
  pub read-varint : Settles wire-read-varint.Learnt
  pub size : Settles wire-size.Learnt
  pub put-varint : SettlesLeft wire-put-varint.Learnt (λ κs e. e.0.now)
  pub read : SettlesLeft confstate-read.Learnt (λ κs e. e.1.0.now)
  pub write : SettlesLeft confstate-write.Learnt (λ κs e. e.1.0.now)
  pub read_number : Settles confstate-read-number.Learnt
  pub refusal-from : Settles confstate-refusal-from.Learnt
  pub write_number : Settles confstate-write-number.Learnt
  pub put-comparison : SettlesLeft comparison-put.Learnt (λ κs e. held_by e.0.now)
  pub compare : SettlesLeft comparison-compare.Learnt (λ κs e. e.1.1.0.now)

-- what the reader answers, and the words
unread : {r q : Result (Unit {0}) read.Refusal} {n : ℕ} {v m l : List ℕ} → (told r ≡ n) × (m ≡ v) → (told q ≡ n) × (l ≡ v) → (r ≡ q) × (m ≡ l)
unread {r = r} {q = q} {m = m} {l = l} a b = (told_once r q (a.0 ∙ sym b.0), equation m l a.1 b.1)

-- what the writer answers, and the bytes
unwritten : {r q : Result ℕ Unwritten} {n w : ℕ} {v m l : List ℕ} → (said r ≡ n) × (answered r ≡ w) × (m ≡ v) → (said q ≡ n) × (answered q ≡ w) × (l ≡ v) → (r ≡ q) × (m ≡ l)
unwritten {r = r} {q = q} {m = m} {l = l} a b = (written_once r q (a.0 ∙ sym b.0) (a.1 ∙ sym b.1), equation m l a.2 b.2)

pub messages : Messages
messages = search (equation, put-settled, written-settled, unread, unwritten, both)

-- ** calls

pub record Entries : Type 0 where
  pub dimecandle_call : SettlesLeft calls-call.Learnt (λ κs e. e.1.0.now)
  pub dimecandle_unplug : SettlesLeft calls-unplug.Learnt (λ κs e. e.1.1.0.now)
  pub dimecandle_read_conf_state : SettlesLeft calls-read-conf-state.Learnt (λ κs e. e.1.0.now)
  pub dimecandle_write_conf_state : SettlesLeft calls-write-conf-state.Learnt (λ κs e. e.1.0.now)
  pub dimecandle_compare : SettlesLeft calls-compare.Learnt (λ κs e. e.1.1.0.now)
  pub word : Settles calls-word.Learnt
  pub holds : Settles calls-holds.Learnt
  pub state : Settles calls-state.Learnt
  pub change_list : Settles calls-change-list.Learnt
  pub conf : Settles calls-conf.Learnt
  pub log : Settles calls-log.Learnt
  pub conf-state : Settles calls-conf-state.Learnt
  pub put-reply : SettlesLeft calls-put-reply.Learnt (λ κs e. held_by e.0.now)

pub entries : Entries
entries = search (equation, written-settled, both)
