-- SET, CONF and CONFSTATE: a block whose words are those of a value is read as that value. Assumes nothing.
use Prim.Native.Nat.{ℕ, ◌+◌}
use mathlib.Core.Path.{◌≡◌, refl, ap, sym, ◌∙◌}
use mathlib.Core.Bool.{Bool, true, false}
use mathlib.Core.List.{List, [], ◌∷◌, ◌++◌}
use native.Mathlib.Omega.{arith}
use lib.ListN.{length}
use Rattle.idset.specs.declared.IdSet.{IdSet}
use Rattle.tracker.specs.declared.Configuration.{Configuration}
use Rattle.tracker.specs.declared.IdList.{IdList}
use Rattle.tracker.specs.declared.ConfState.{ConfState}
use Rattle.unplug.specs.Words.{flag}
use Rattle.calls.specs.Layout.{word, words, set_at, list_at, conf_at, conf_state_at}
use Rattle.calls.specs.Reply.{flag_word, set_words, list_words, conf_words, conf_state_words}
use Rattle.calls.proofs.Typed.{TypedSet, TypedList, TypedConf, TypedConfState}
use Rattle.calls.proofs.WriteLengths.{set-length, list_length}
use Rattle.calls.proofs.RoundWords.{Reads, reads-left, reads_right, reads_first, words_back}

pub flag-back : (b : Bool) → flag (flag_word b) ≡ b
flag-back true = refl
flag-back false = refl

-- four blocks of 65 words, and a flag
record Four (s : List ℕ) (k : ℕ) (a b c d : List ℕ) (w : Bool) : Type 0 where
  first : Reads s k a
  second : Reads s (k + 65) b
  third : Reads s (k + 130) c
  fourth : Reads s (k + 195) d
  last : flag (word s (k + 260)) ≡ w

module _ {s : List ℕ} where
  -- 64 ids and their count
  ids-read : {k : ℕ} (ids : List ℕ) (n : ℕ) → length ids ≡ 64 → Reads s k (ids ++ (n ∷ [])) → (words 64 s k ≡ ids) × (word s (k + 64) ≡ n)
  ids-read {k} ids n h f = (
    ap (λ (m : ℕ). words m s k) (sym h) ∙ words_back (reads-left ids (n ∷ []) f),
    reads_first (reads_right ids (n ∷ []) f (k + 64) (omega arith)),
  )

  pub set-read : {k : ℕ} {x : IdSet} → TypedSet x → Reads s k (set_words x) → set_at s k ≡ x
  set-read {k} {x} z f =
      let p = ids-read x.ids x.len z.ids.places f in
      λ j. record { ids = p.0 j; len = p.1 j }

  list_read : {k : ℕ} {x : IdList} → TypedList x → Reads s k (list_words x) → list_at s k ≡ x
  list_read {k} {x} z f =
      let p = ids-read x.ids x.len z.ids.places f in
      λ j. record { ids = p.0 j; len = p.1 j }

  four-read : {k : ℕ} (a b c d : List ℕ) (w : Bool) → length a ≡ 65 → length b ≡ 65 → length c ≡ 65 → length d ≡ 65 → Reads s k (a ++ (b ++ (c ++ (d ++ (flag_word w ∷ []))))) → Four s k a b c d w
  four-read {k} a b c d w p q u v f =
      let e = flag_word w ∷ [] in
      let f1 = reads_right a (b ++ (c ++ (d ++ e))) f (k + 65) (omega arith) in
      let f2 = reads_right b (c ++ (d ++ e)) f1 (k + 130) (omega arith) in
      let f3 = reads_right c (d ++ e) f2 (k + 195) (omega arith) in
      let f4 = reads_right d e f3 (k + 260) (omega arith) in
      record {
        first = reads-left a (b ++ (c ++ (d ++ e))) f;
        second = reads-left b (c ++ (d ++ e)) f1;
        third = reads-left c (d ++ e) f2;
        fourth = reads-left d e f3;
        last = ap (λ (n : ℕ). flag n) (reads_first f4) ∙ flag-back w;
      }

  pub conf-read : {k : ℕ} {c : Configuration} → TypedConf c → Reads s k (conf_words c) → conf_at s k ≡ c
  unfolding conf_words
  conf-read {k} {c} z f =
      let r = four-read (set_words c.incoming) (set_words c.outgoing) (set_words c.learners) (set_words c.learners_next) c.auto_leave (set-length z.incoming) (set-length z.outgoing) (set-length z.learners) (set-length z.learners_next) f in
      let a1 : set_at s k ≡ c.incoming = set-read z.incoming r.first in
      let a2 : set_at s (k + 65) ≡ c.outgoing = set-read z.outgoing r.second in
      let a3 : set_at s (k + 130) ≡ c.learners = set-read z.learners r.third in
      let a4 : set_at s (k + 195) ≡ c.learners_next = set-read z.learners_next r.fourth in
      λ j. record { incoming = a1 j; outgoing = a2 j; learners = a3 j; learners_next = a4 j; auto_leave = r.last j }

  pub conf-state-read : {k : ℕ} {c : ConfState} → TypedConfState c → Reads s k (conf_state_words c) → conf_state_at s k ≡ c
  unfolding conf_state_words
  conf-state-read {k} {c} z f =
      let r = four-read (list_words c.voters) (list_words c.learners) (list_words c.voters_outgoing) (list_words c.learners_next) c.auto_leave (list_length z.voters) (list_length z.learners) (list_length z.voters_outgoing) (list_length z.learners_next) f in
      let a1 : list_at s k ≡ c.voters = list_read z.voters r.first in
      let a2 : list_at s (k + 65) ≡ c.learners = list_read z.learners r.second in
      let a3 : list_at s (k + 130) ≡ c.voters_outgoing = list_read z.voters_outgoing r.third in
      let a4 : list_at s (k + 195) ≡ c.learners_next = list_read z.learners_next r.fourth in
      λ j. record { voters = a1 j; learners = a2 j; voters_outgoing = a3 j; learners_next = a4 j; auto_leave = r.last j }
