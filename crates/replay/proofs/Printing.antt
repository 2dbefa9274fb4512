-- The loop that prints a listing block by block. Assumes nothing.
use Rattle.std.proofs.Common.{◌≡◌, ℕ, ◌+◌, ◌*◌, ◌/◌, ◌≤◌, ◌<◌, Bool, true, false, List, [], ◌++◌, length, take, drop, arith, ap, sym, ◌∙◌, subst, append_assoc, length-take-le}
use Rattle.std.proofs.Math.Seq.{take-append_seam}
use Rattle.std.proofs.lemmas.List.{length-append}
use Rattle.std.specs.Prelude.{Option}
use Rattle.std.specs.Io.KnownBytes.{Appends}
use Rattle.std.proofs.KnownBytes.{Appends-nil, Appends-trans}
use Rattle.text.specs.Put.{Put, last}
use Rattle.text.proofs.Laws.{put-fits, put-length}
use Rattle.listing.specs.Script.{kind_at, number_at, stops}
use Rattle.listing.specs.Lines.{stopped_line}
use Rattle.listing.specs.Listing.{ending, listing}
use Rattle.listing.specs.Sessions.{session_of, begin_in, after_in, shown_in}
use Rattle.listing.specs.declared.Session.{Session}
use Rattle.listing.proofs.Sessions.{Good, begin_good, begin-same, after_good, after_same, after-count, shown-same}
use Rattle.listing.proofs.Replay.{lines_from, lines-go, lines-stop, lines_end, lines_all}
use Rattle.listing.proofs.Sizes.{line-size, stopped_size, ending-size}

-- ** A block

-- what stands at the front of a block grows by what is put after it
module _ {block x new : List ℕ} {n q : ℕ} (room : n + length x ≤ length block) (fits : length block ≤ last) (put : Put block n x new q) where
  pub end_is : q ≡ n + length x
  end_is = omega (arith, put.end)

  pub front_grows : take q new ≡ take n block ++ x
  front_grows =
      let front = take n block ++ x in
      let long : length front ≡ q = omega (arith, length-append (take n block) x, length-take-le n block (omega arith), end_is) in
      ap (λ k. take k new) (sym long) ∙ ap (take (length front)) (put-fits put room ∙ sym (append_assoc (take n block) x (drop (n + length x) block))) ∙ take-append_seam front (drop (n + length x) block)

-- ** The loop

-- what was written, what stands at the front of the block and what the records print from record k on is the listing
pub record Printing (s : List ℕ) (old now : Option (List ℕ)) (block : List ℕ) (n : ℕ) (z : Session) (k : ℕ) : Type 0 where
  pub done : List ℕ
  pub written : Appends old now done
  pub within : k ≤ length s / 9
  pub good : Good z
  pub count : z.printed ≤ k
  pub room : n ≤ 21248
  pub size : length block ≡ 32768
  pub text : done ++ (take n block ++ lines_from s k (session_of z)) ≡ listing s

pub print_start : (s block : List ℕ) (a : Option (List ℕ)) {z : Session} → length block ≡ 32768 → z ≡ begin_in → Printing s a a block 0 z 0
print_start s block a k e =
    rw e (record {
      done = [];
      written = Appends-nil a;
      within = omega arith;
      good = begin_good;
      count = omega arith;
      room = omega arith;
      size = k;
      text = rw begin-same (lines_all s);
    })

module _ {s block : List ℕ} {a b : Option (List ℕ)} {n k : ℕ} {z : Session} (l : Printing s a b block n z k) where
  -- no text is longer than a block has room for
  pub text_fits : (x : List ℕ) → length x ≤ 11300 → {new : List ℕ} {q : ℕ} → Put block n x new q → q ≤ length new
  text_fits x short put = omega (arith, l.room, l.size, end_is (omega (arith, l.room, l.size)) (omega (arith, l.size)) put, put-length put)

  -- the last text, written
  last_written : (x : List ℕ) → length x ≤ 11300 → lines_from s k (session_of z) ≡ x → (c : Option (List ℕ)) {new : List ℕ} {q : ℕ} → Put block n x new q → Appends b c (take q new) → Appends a c (listing s)
  last_written x short is c {new} {q} put w =
      let front : take q new ≡ take n block ++ x = front_grows (omega (arith, l.room, l.size)) (omega (arith, l.size)) put in
      let whole : l.done ++ take q new ≡ listing s = ap (λ r. l.done ++ r) (front ∙ ap (λ r. take n block ++ r) (sym is)) ∙ l.text in
      subst (Appends a c) whole (Appends-trans a b c l.done (take q new) l.written w)

  pub print_end : k ≡ length s / 9 → (c : Option (List ℕ)) {new : List ℕ} {q : ℕ} → Put block n (ending (9 * (length s / 9)) (length s) (session_of z)) new q → Appends b c (take q new) → Appends a c (listing s)
  print_end h = last_written _ (ending-size (9 * (length s / 9)) (length s) (session_of z)) (ap (λ j. lines_from s j (session_of z)) h ∙ lines_end s (session_of z))

  module _ (h : k < length s / 9) {t : Bool} (e : t ≡ stops (session_of z) (kind_at s (9 * k))) where
    pub print_stop : t ≡ true → (c : Option (List ℕ)) {new : List ℕ} {q : ℕ} → Put block n (stopped_line (9 * k)) new q → Appends b c (take q new) → Appends a c (listing s)
    print_stop y = last_written _ (stopped_size (9 * k)) (lines-stop s k (session_of z) h (sym e ∙ y))

    module _ (y : t ≡ false) {m : ℕ} (f : m ≡ number_at s (9 * k)) (space : length s ≤ last) {new : List ℕ} {q : ℕ} {next : Session} (put : Put block n (shown_in z (kind_at s (9 * k))) new q) (g : next ≡ after_in z (kind_at s (9 * k)) m) where
      abbrev kind : ℕ
      kind = kind_at s (9 * k)

      goes : stops (session_of z) kind ≡ false
      goes = sym e ∙ y

      low : z.printed < last
      low = omega (arith, l.count, h, space)

      front : take q new ≡ take n block ++ shown_in z kind
      front = front_grows (omega (arith, l.room, l.size, line-size z kind)) (omega (arith, l.size)) put

      next_is : next ≡ after_in z kind (number_at s (9 * k))
      next_is = g ∙ ap (after_in z kind) f

      left_is : lines_from s k (session_of z) ≡ shown_in z kind ++ lines_from s (k + 1) (session_of next)
      left_is = rw (next_is, after_same z l.good kind (number_at s (9 * k)) goes low, shown-same z l.good kind low) (lines-go s k (session_of z) h goes)

      text_is : l.done ++ (take q new ++ lines_from s (k + 1) (session_of next)) ≡ listing s
      text_is =
          ap (λ r. l.done ++ (r ++ lines_from s (k + 1) (session_of next))) front
          ∙ ap (λ r. l.done ++ r) (append_assoc (take n block) (shown_in z kind) (lines_from s (k + 1) (session_of next)) ∙ ap (λ r. take n block ++ r) (sym left_is))
          ∙ l.text

      good_next : Good next
      good_next = rw next_is (after_good z l.good kind (number_at s (9 * k)) goes)

      count_next : next.printed ≤ k + 1
      count_next = rw next_is (omega (arith, l.count, after-count z kind (number_at s (9 * k))))

      -- the block stays
      pub print_on : q ≤ 21248 → Printing s a b new q next (k + 1)
      print_on r =
          record {
            done = l.done;
            written = l.written;
            within = omega (arith, h);
            good = good_next;
            count = count_next;
            room = r;
            size = put-length put ∙ l.size;
            text = text_is;
          }

      -- the block is written
      pub print_block : (c : Option (List ℕ)) {after : List ℕ} → length after ≡ length new → Appends b c (take q new) → Printing s a c after 0 next (k + 1)
      print_block c e w =
          record {
            done = l.done ++ take q new;
            written = Appends-trans a b c l.done (take q new) l.written w;
            within = omega (arith, h);
            good = good_next;
            count = count_next;
            room = omega arith;
            size = e ∙ put-length put ∙ l.size;
            text = append_assoc l.done (take q new) (lines_from s (k + 1) (session_of next)) ∙ text_is;
          }
