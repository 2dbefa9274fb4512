-- Laws of a field by its tag, and of the loop over fields. Assumes nothing.
use Prim.Native.Nat.{ℕ, zero, suc, ◌+◌, ◌-◌, ◌/◌, ◌%◌, ◌≤◌, ◌<◌}
use mathlib.Core.Path.{◌≡◌, refl, ap, sym, subst, ◌∙◌}
use mathlib.Core.Bool.{Bool, true, false, ◌&&◌, cond}
use mathlib.Core.List.{List}
use native.Mathlib.Omega.{arith}
use borrow.Author.Tests.{ltb-true, ltb-false, eq-eqb, ne_eqb}
use lib.Dec.{leb, ltb}
use lib.ListN.{length, drop, length-drop, drop_of_length-le}
use lib.Seq.{drop-drop}
use Rattle.std.specs.Prelude.{Result, Ok, Err}
use Rattle.rules.specs.State.{ConfState}
use Rattle.rules.specs.Apply.{no_conf_state}
use Rattle.rules.specs.Wire.{Found, bad, found, Payload, fixed, single, fixed_in, length_in, payload_in, Field, numbered, held, tagged, varint_in, field_in, row}
use Rattle.rules.specs.Message.{Few64, Read, refused, taken, entered, go_on, read_row, read}
use Rattle.rules.proofs.Refusals.{field-named, entered-named}
use Rattle.rules.proofs.Lists64.{entered-few, few_none}
use Rattle.rules.proofs.MessageFirst.{row-end, row_first, row-bad}
use Rattle.rules.proofs.Wire.{field-within}
use Rattle.wire.specs.Varints.{read_at}
use Rattle.wire.specs.declared.Varint.{Varint}
use Rattle.wire.specs.declared.Fault.{Fault}
use Rattle.wire.proofs.Found.{read-bad, read_found}
use Rattle.confstate.specs.Words.{conf_state_words, message_in}
use Rattle.confstate.specs.Steps.{Holding, Reads, Step, stop, go, Takes, closed, held_at, tagged_at, field_at, fixed_at}
use Rattle.confstate.specs.Refusals.{refusal_for, told}
use Rattle.confstate.specs.declared.read.Refusal.{Refusal}
use Rattle.confstate.specs.declared.read.Refusal.TheVariants.{CutShort, Malformed}
use Rattle.confstate.proofs.Words.{holding, words_back}
use Rattle.confstate.proofs.Fields.{held-bad, held_29, held-go, bad-told, named, numbered-some, unknown-taken}

-- ** The payload, by the wire type

payload_0 : (w : ℕ) (l : List ℕ) → w ≡ 0 → payload_in w l ≡ single (varint_in l)
unfolding payload_in
payload_0 w l h = rw (eq-eqb w 0 h)

payload_1 : (w : ℕ) (l : List ℕ) → w ≡ 1 → payload_in w l ≡ fixed_in 8 l
unfolding payload_in
payload_1 w l h = rw (ne_eqb w 0 (λ e. omega arith), eq-eqb w 1 h)

payload_2 : (w : ℕ) (l : List ℕ) → w ≡ 2 → payload_in w l ≡ length_in l (varint_in l)
unfolding payload_in
payload_2 w l h = rw (ne_eqb w 0 (λ e. omega arith), ne_eqb w 1 (λ e. omega arith), eq-eqb w 2 h)

payload_5 : (w : ℕ) (l : List ℕ) → w ≡ 5 → payload_in w l ≡ fixed_in 4 l
unfolding payload_in
payload_5 w l h = rw (ne_eqb w 0 (λ e. omega arith), ne_eqb w 1 (λ e. omega arith), ne_eqb w 2 (λ e. omega arith), eq-eqb w 5 h)

payload_none : (w : ℕ) (l : List ℕ) → (w ≡ 0 → ⊥) → (w ≡ 1 → ⊥) → (w ≡ 2 → ⊥) → (w ≡ 5 → ⊥) → payload_in w l ≡ bad 29
unfolding payload_in
payload_none w l a b c d = rw (ne_eqb w 0 a, ne_eqb w 1 b, ne_eqb w 2 c, ne_eqb w 5 d)

-- ** Eight or four bytes

entered-fixed : (f : ℕ) (m : ConfState) → 0 < f → f ≤ 5 → entered (record { number = f; payload = fixed }) m ≡ refused 29
unfolding entered
entered-fixed zero m a b = absurd (omega arith)
entered-fixed (suc zero) m a b = refl
entered-fixed (suc (suc zero)) m a b = refl
entered-fixed (suc (suc (suc zero))) m a b = refl
entered-fixed (suc (suc (suc (suc zero)))) m a b = refl
entered-fixed (suc (suc (suc (suc (suc zero))))) m a b = refl
entered-fixed (suc (suc (suc (suc (suc (suc f)))))) m a b = absurd (omega arith)

module _ {ws : List ℕ} (k : Holding ws) (l : List ℕ) (q f n : ℕ) (t : Result ℕ Refusal) where
  fixed-taken : t ≡ fixed_at (length l - q) q f n → Takes (held_at q f (message_in ws) (fixed_in n (drop q l))) t ws
  unfolding fixed_at Takes
  fixed-taken e = by (leb n (length l - q)) refl e
    where
      room : (c : Bool) → leb n (length l - q) ≡ c → leb n (length (drop q l)) ≡ c
      room c h = ap (leb n) (length-drop q l) ∙ h

      here : (c : Bool) → leb n (length l - q) ≡ c → fixed_in n (drop q l) ≡ cond c (found fixed n) (bad 28)
      here c h = ap (λ (x : Bool). cond x (found fixed n) (bad 28)) (room c h)

      known : (c : Bool) → ltb 5 f ≡ c → numbered f ≡ true → leb n (length l - q) ≡ true → t ≡ cond c (Ok (q + n)) (Err Malformed)
          → Takes (held_at q f (message_in ws) (fixed_in n (drop q l))) t ws
      known true h b g z =
          held-go q f (message_in ws) t ws (here true g) b
          (subst (λ (x : Result ℕ Refusal). Takes (closed (q + n) (entered (record { number = f; payload = fixed }) (message_in ws))) x ws) (sym z) (unknown-taken k f (q + n) fixed (ltb-true 5 f h)))
      known false h b g z =
          held-go q f (message_in ws) t ws (here true g) b
          (subst (λ (r : Read). Takes (closed (q + n) r) t ws) (sym (entered-fixed f (message_in ws) (numbered-some f b) (ltb-false 5 f h))) (ap told z))

      fits : (c : Bool) → numbered f ≡ c → leb n (length l - q) ≡ true → t ≡ cond (c && ltb 5 f) (Ok (q + n)) (Err Malformed)
          → Takes (held_at q f (message_in ws) (fixed_in n (drop q l))) t ws
      fits true b g z = known (ltb 5 f) refl b g z
      fits false b g z = held_29 q f (message_in ws) t ws (here true g) b (ap told z)

      by : (c : Bool) → leb n (length l - q) ≡ c
          → t ≡ cond c (cond (numbered f && ltb 5 f) (Ok (q + n)) (Err Malformed)) (Err CutShort)
          → Takes (held_at q f (message_in ws) (fixed_in n (drop q l))) t ws
      by true g z = fits (numbered f) refl g z
      by false g z = held-bad q f (message_in ws) t ws (here false g) (ap told z)

-- ** A field, by its tag

module _ (l : List ℕ) (q : ℕ) (w : ConfState) {x : Result Varint Fault} (e : x ≡ read_at l q) where
  pub tag-bad : (t : Result ℕ Refusal) (ws : List ℕ) {d : Fault} → x ≡ Err d → t ≡ Err (refusal_for d) → Takes (field_at l q w) t ws
  unfolding field_at Takes
  tag-bad t ws {d} h g = subst (λ (y : Found ℕ). Takes (tagged_at l q w y) t ws) (sym (read-bad l q (sym h ∙ e))) (bad-told d g)

  module _ {v : Varint} (h : x ≡ Ok v) where
    by-tag : field_at l q w ≡ held_at v.next (v.value / 8) w (payload_in (v.value % 8) (drop v.next l))
    unfolding field_at
    by-tag =
        ap (tagged_at l q w) (read_found l q (sym h ∙ e)).1.1
        ∙ ap (λ (j : ℕ). held_at j (v.value / 8) w (payload_in (v.value % 8) (drop j l))) (sym (read_found l q (sym h ∙ e)).1.0)

    with_payload : {x : Found Payload} (t : Result ℕ Refusal) (ws : List ℕ) → payload_in (v.value % 8) (drop v.next l) ≡ x → Takes (held_at v.next (v.value / 8) w x) t ws → Takes (field_at l q w) t ws
    with_payload t ws p g =
        subst (λ (s : Step). Takes s t ws) (sym by-tag) (subst (λ (y : Found Payload). Takes (held_at v.next (v.value / 8) w y) t ws) (sym p) g)

    pub tag_2 : (t : Result ℕ Refusal) (ws : List ℕ) → v.value % 8 ≡ 2
        → Takes (held_at v.next (v.value / 8) w (length_in (drop v.next l) (varint_in (drop v.next l)))) t ws → Takes (field_at l q w) t ws
    tag_2 t ws p g = with_payload t ws (payload_2 (v.value % 8) (drop v.next l) p) g

    pub tag_0 : (t : Result ℕ Refusal) (ws : List ℕ) → v.value % 8 ≡ 0 → Takes (held_at v.next (v.value / 8) w (single (varint_in (drop v.next l)))) t ws → Takes (field_at l q w) t ws
    tag_0 t ws p g = with_payload t ws (payload_0 (v.value % 8) (drop v.next l) p) g

    pub tag_none : (t : Result ℕ Refusal) (ws : List ℕ) → (v.value % 8 ≡ 0 → ⊥) → (v.value % 8 ≡ 1 → ⊥) → (v.value % 8 ≡ 2 → ⊥) → (v.value % 8 ≡ 5 → ⊥)
        → t ≡ Err Malformed → Takes (field_at l q w) t ws
    tag_none t ws a b c d g = with_payload t ws (payload_none (v.value % 8) (drop v.next l) a b c d) (held-bad v.next (v.value / 8) w t ws refl (ap told g))

module _ {ws : List ℕ} (k : Holding ws) (l : List ℕ) (q : ℕ) {x : Result Varint Fault} (e : x ≡ read_at l q) {v : Varint} (h : x ≡ Ok v) (t : Result ℕ Refusal) where
  pub tag_1 : v.value % 8 ≡ 1 → t ≡ fixed_at (length l - v.next) v.next (v.value / 8) 8 → Takes (field_at l q (message_in ws)) t ws
  tag_1 p g = with_payload l q (message_in ws) e h t ws (payload_1 (v.value % 8) (drop v.next l) p) (fixed-taken k l v.next (v.value / 8) 8 t g)

  pub tag_5 : v.value % 8 ≡ 5 → t ≡ fixed_at (length l - v.next) v.next (v.value / 8) 4 → Takes (field_at l q (message_in ws)) t ws
  tag_5 p g = with_payload l q (message_in ws) e h t ws (payload_5 (v.value % 8) (drop v.next l) p) (fixed-taken k l v.next (v.value / 8) 4 t g)

-- ** A field, as the rules find it

abbrev step_in : ℕ → ConfState → Found Field → Step
step_in q w (bad e) = stop e
step_in q w (found f n) = closed (q + n) (entered f w)

step-held : (q f n : ℕ) (w : ConfState) (x : Found Payload) → held_at (q + n) f w x ≡ step_in q w (held f n x)
step-held q f n w (bad e) = refl
step-held q f n w (found p k) = by (numbered f)
  where
    far : q + n + k ≡ q + (n + k)
    far = omega arith

    by : (c : Bool) → cond c (closed (q + n + k) (entered (record { number = f; payload = p }) w)) (stop 29)
        ≡ step_in q w (cond c (found (record { number = f; payload = p }) (n + k)) (bad 29))
    by true = ap (λ (j : ℕ). closed j (entered (record { number = f; payload = p }) w)) far
    by false = refl

step-tagged : (l : List ℕ) (q : ℕ) (w : ConfState) (x : Found ℕ) → tagged_at l q w x ≡ step_in q w (tagged (drop q l) x)
step-tagged l q w (bad e) = refl
step-tagged l q w (found t n) =
    ap (λ (y : List ℕ). held_at (q + n) (t / 8) w (payload_in (t % 8) y)) (sym (drop-drop n q l)) ∙ step-held q (t / 8) n w (payload_in (t % 8) (drop n (drop q l)))

step_of : (l : List ℕ) (q : ℕ) (w : ConfState) → field_at l q w ≡ step_in q w (field_in (drop q l))
unfolding field_at field_in
step_of l q w = step-tagged l q w (varint_in (drop q l))

-- ** The loop over fields

-- it has come to `at`; what the words hold is what was read before
pub record Going (l ws : List ℕ) (at : ℕ) : Type 0 where
  pub long : length ws ≡ 261
  pub holds : Holding ws
  pub spot : at ≤ length l
  pub same : read_row (row (drop at l)) (message_in ws) ≡ read l

pub going_start : (l : List ℕ) {ws : List ℕ} → ws ≡ conf_state_words no_conf_state → Going l ws 0
unfolding read
going_start l {ws} e =
    let k : Holding ws = subst Holding (sym e) (holding no_conf_state few_none) in
    record {
      long = k.long;
      holds = k;
      spot = omega arith;
      same = ap (read_row (row l)) (ap message_in e ∙ words_back no_conf_state few_none);
    }

-- what comes of a field at `at`
abbrev Comes : List ℕ → ℕ → Result ℕ Refusal → List ℕ → Step → Type 0
Comes l at t ws (stop e) = (read l ≡ refused e) × ((told t ≡ e) × (e ≡ 0 → ⊥))
Comes l at t ws (go m n) = (t ≡ Ok n) × (Going l ws n × (at < n))

module _ {l ws : List ℕ} {at : ℕ} (g : Going l ws at) where
  pub going_end : length l ≤ at → Reads (read l) (Ok tt) ws
  unfolding Reads read_row
  going_end h =
      let a : read l ≡ taken (message_in ws) = sym g.same ∙ ap (λ (r : List ℕ). read_row (row r) (message_in ws)) (drop_of_length-le l h) ∙ ap (λ r. read_row r (message_in ws)) row-end in
      subst (λ (r : Read). Reads r (Ok tt) ws) (sym a) (refl, g.holds.words)

  module _ (h : at < length l) (t : Result ℕ Refusal) (new : List ℕ) (w : Takes (field_at l at (message_in ws)) t new) where
    comes : Comes l at t new (step_in at (message_in ws) (field_in (drop at l)))
    unfolding Takes read_row
    comes = by (field_in (drop at l)) refl (subst (λ (s : Step). Takes s t new) (step_of l at (message_in ws)) w)
      where
        some : 0 < length (drop at l)
        some = simp length-drop (omega arith)

        after : (f : Field) (n : ℕ) → field_in (drop at l) ≡ found f n → (r : Read) → entered f (message_in ws) ≡ r → Takes (closed (at + n) r) t new → Comes l at t new (closed (at + n) r)
        after f n e (refused d) x y = (
          sym g.same ∙ (ap (λ r. read_row r (message_in ws)) (row_first (drop at l) e) ∙ ap (λ (r : Read). go_on r (read_row (row (drop n (drop at l))))) x),
          (y, λ z. omega (arith, (entered-named f (message_in ws) x).0)),
        )
        after f n e (taken m) x y =
            let k : Few64 m = entered-few f g.holds.few x in
            let j : Holding new = subst Holding (sym y.1) (holding m k) in (
              y.0,
              (
                record {
                  long = j.long;
                  holds = j;
                  spot = omega (arith, (field-within (drop at l) e).1, length-drop at l);
                  same = ap (λ (i : List ℕ). read_row (row i) (message_in new)) (sym (drop-drop n at l))
                      ∙ (ap (read_row (row (drop n (drop at l)))) (ap message_in y.1 ∙ words_back m k)
                      ∙ (sym (ap (λ r. read_row r (message_in ws)) (row_first (drop at l) e) ∙ ap (λ (r : Read). go_on r (read_row (row (drop n (drop at l))))) x) ∙ g.same));
                },
                omega (arith, (field-within (drop at l) e).0),
              ),
            )

        by : (x : Found Field) → field_in (drop at l) ≡ x → Takes (step_in at (message_in ws) x) t new → Comes l at t new (step_in at (message_in ws) x)
        by (bad e) x y = (sym g.same ∙ ap (λ r. read_row r (message_in ws)) (row-bad (drop at l) some x), (y, λ z. omega (arith, (field-named (drop at l) x).0)))
        by (found f n) x y = after f n x (entered f (message_in ws)) refl y

    pub going_stop : {d : Refusal} {r : Result (Unit {0}) Refusal} → t ≡ Err d → r ≡ Err d → Reads (read l) r new
    unfolding Reads
    going_stop {d} {r} f g = by (step_in at (message_in ws) (field_in (drop at l))) comes
      where
        same : told r ≡ told t
        same = rw (f, g)

        by : (s : Step) → Comes l at t new s → Reads (read l) r new
        by (stop e) c = subst (λ (y : Read). Reads y r new) (sym c.0) (same ∙ c.1.0)
        by (go m n) c = absurd (named d (sym (ap told f) ∙ ap told c.0))

    pub going_next : {n : ℕ} → t ≡ Ok n → Going l new n × (at < n)
    going_next {n} f = by (step_in at (message_in ws) (field_in (drop at l))) comes
      where
        by : (s : Step) → Comes l at t new s → Going l new n × (at < n)
        by (stop e) c = absurd (c.1.1 (sym c.1.0 ∙ ap told f))
        by (go m k) c =
            let e : k ≡ n = cc (c.0, f) in
            subst (λ (j : ℕ). Going l new j × (at < j)) e c.1
