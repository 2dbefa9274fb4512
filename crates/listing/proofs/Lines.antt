-- The pieces of a line: an entry, a set of an array's first places, the log. Assumes nothing.
use Prim.Native.Nat.{ℕ, min}
use mathlib.Core.Path.{◌≡◌, refl, ap, sym, ◌∙◌}
use mathlib.Core.List.{List, [], ◌∷◌, ◌++◌, append_assoc}
use native.Mathlib.Omega.{arith, min_cases}
use lib.ListN.{length, take}
use lib.Seq.{take_all}
use Rattle.text.specs.Text.{decimal, each}
use Rattle.tracker.specs.Bridge.{entry, entry_of, entries_of, log_of}
use Rattle.tracker.specs.declared.ChangeLog.{ChangeLog}
use Rattle.tracker.specs.declared.MapChange.{MapChange}
use Rattle.tracker.specs.declared.MapChangeType.{MapChangeType}
use Rattle.tracker.specs.declared.MapChangeType.TheVariants.{Add, Remove}
use Rattle.listing.specs.Lines.{entry_text, spaced_entry, entries_text, log_text}
use Rattle.listing.specs.Sessions.{sign_of}

-- ** The first places of an array

pub take_least : {A : Type 0} {k m : ℕ} (n : ℕ) (l : List A) → length l ≡ k → m ≡ min n k → take m l ≡ take n l
take_least {k = k} {m = m} n l e h = min_cases n k (take m l ≡ take n l) (λ a b. rw (h, b)) (λ a b. rw (h, b) (take_all k l (omega arith) ∙ sym (take_all n l (omega arith))))

-- ** An entry

pub entry_text_lem : (k : MapChangeType) (x : ℕ) → entry_text (entry k x) ≡ sign_of k ∷ decimal x
unfolding entry_text
entry_text_lem Add x = refl
entry_text_lem Remove x = refl

-- ** The log

abbrev pub spaced_change : MapChange → List ℕ
spaced_change e = spaced_entry (entry_of e)

each_change : (es : List MapChange) → each spaced_change es ≡ each spaced_entry (entries_of es)
unfolding each entries_of
each_change [] = refl
each_change (e ∷ es) = ap (λ l. spaced_change e ++ l) (each_change es)

pub log_none : (log : ChangeLog) → length (take log.count log.entries) ≡ 0 → log_text (log_of log) ≡ 40 ∷ 41 ∷ []
unfolding log_text entries_text entries_of
log_none log h = rw (none (take log.count log.entries) h)
  where
    none : (es : List MapChange) → length es ≡ 0 → es ≡ []
    none [] k = refl
    none (x ∷ xs) k = absurd (omega arith)

pub log-some : (log : ChangeLog) {first : MapChange} {rest : List MapChange} → take log.count log.entries ≡ first ∷ rest
    → log_text (log_of log) ≡ 40 ∷ (entry_text (entry_of first) ++ (each spaced_change rest ++ (41 ∷ [])))
unfolding log_text entries_text entries_of
log-some log {first} {rest} h = rw (h, each_change rest, append_assoc)
