-- Each accepted step is applied, and leaves a state in order. Assumes nothing.
use Prim.Native.Nat.{ℕ, ◌≤◌}
use mathlib.Core.Path.{◌≡◌, refl, ap, ◌∙◌, sym, fun_ext}
use mathlib.Core.Bool.{Bool, true, false, ◌&&◌, ◌||◌, not, cond, true≢false, false≢true}
use mathlib.Core.List.{List, [], ◌∷◌}
use native.Mathlib.Omega.{arith}
use borrow.Author.Tests.{le-leb, not-true}
use lib.Dec.{eqb}
use lib.ListN.{length}
use Rattle.progress.specs.Record.{fresh_record}
use Rattle.progress.specs.declared.Progress.{Progress}
use Rattle.rules.specs.Ids.{apart, insert_all, memb, same_ids}
use Rattle.rules.specs.State.{log_formed, Change, Conf, Entry, Kind, Peer, State, add_learner, add_node, conf_formed, formed, ids, members, remove_node}
use Rattle.rules.specs.Answers.{Verdict, accepted, fault, ok, passes}
use Rattle.rules.specs.Check.{check, in_order, is_tracked}
use Rattle.rules.specs.Table.{I, IO, L, O, OS, Places, Standing, idle, none, places_of, standing_in, table}
use Rattle.rules.specs.Changes.{pending_tracked}
use Rattle.rules.specs.Apply.{applied, apply_conf, enrol}
use Rattle.rules.specs.Restore.{Step, ask, enter_step, leave_step, simple_step}
use Rattle.rules.specs.Boxes.{Box, box_of, change_box, enter_box, enter_standing, leave_standing}
use Rattle.rules.proofs.Sets.{and_left, and_right, apart_of, ascending-all, ascending_ext, ids-same, length_part, memb-all, of-apart, same-ids}
use Rattle.rules.proofs.Plain.{changes_box, step_box}
use Rattle.rules.proofs.Boxes.{Sound, spot}
use Rattle.rules.proofs.Changes.{ids-enrol, last_says_lem}
use Rattle.rules.proofs.Formed.{of-sets, Whole, whole_of}
use Rattle.rules.proofs.Check.{Apart, Passes, passes_of, stands_of}
use Rattle.rules.proofs.Steps.{Checked, Ordered, Stepped, enter_stepped, is_idle, leave_stepped, ordered-checked, simple_stepped}

-- ** No step makes a box idle, and none names 0

busy_row : (st : Standing) (k : Kind) → is_idle (table st k).0 ≡ false
unfolding table
busy_row none add_node = refl
busy_row none add_learner = refl
busy_row none remove_node = refl
busy_row idle add_node = refl
busy_row idle add_learner = refl
busy_row idle remove_node = refl
busy_row I add_node = refl
busy_row I add_learner = refl
busy_row I remove_node = refl
busy_row L add_node = refl
busy_row L add_learner = refl
busy_row L remove_node = refl
busy_row O add_node = refl
busy_row O add_learner = refl
busy_row O remove_node = refl
busy_row IO add_node = refl
busy_row IO add_learner = refl
busy_row IO remove_node = refl
busy_row OS add_node = refl
busy_row OS add_learner = refl
busy_row OS remove_node = refl

busy_enter : (st : Standing) → is_idle st ≡ false → is_idle (enter_standing st) ≡ false
busy_enter none h = refl
busy_enter idle h = h
busy_enter I h = refl
busy_enter L h = refl
busy_enter O h = refl
busy_enter IO h = refl
busy_enter OS h = refl

busy_leave : (st : Standing) → is_idle st ≡ false → is_idle (leave_standing st) ≡ false
busy_leave none h = refl
busy_leave idle h = h
busy_leave I h = refl
busy_leave L h = refl
busy_leave O h = refl
busy_leave IO h = refl
busy_leave OS h = refl

busy_changes : (r : Progress) (x : ℕ) (cs : List Change) (b : Box) → is_idle b.standing ≡ false → is_idle (changes_box r x cs b).standing ≡ false
unfolding changes_box
busy_changes r x [] b h = h
busy_changes r x (c ∷ cs) b h = busy_changes r x cs (cond (eqb c.id x && not (eqb x 0)) (change_box r c.kind b) b) (go (eqb c.id x && not (eqb x 0)))
  where
    go : (t : Bool) → is_idle (cond t (change_box r c.kind b) b).standing ≡ false
    go true = busy_row b.standing c.kind
    go false = h

pub busy_step : (r : Progress) (x : ℕ) (p : Step) (b : Box) → is_idle b.standing ≡ false → is_idle (step_box r x p b).standing ≡ false
busy_step r x (simple_step cs) b h = busy_changes r x cs b h
busy_step r x (enter_step a cs) b h = busy_changes r x cs (enter_box b) (busy_enter b.standing h)
busy_step r x leave_step b h = busy_leave b.standing h

pub zero_changes : (r : Progress) (cs : List Change) (b : Box) → changes_box r 0 cs b ≡ b
unfolding changes_box
zero_changes r [] b = refl
zero_changes r (c ∷ cs) b = ap (changes_box r 0 cs) (go (eqb c.id 0)) ∙ zero_changes r cs b
  where
    go : (t : Bool) → cond (t && false) (change_box r c.kind b) b ≡ b
    go true = refl
    go false = refl

zero_step : (r : Progress) (p : Step) (b : Box) → b.standing ≡ none → (step_box r 0 p b).standing ≡ none
zero_step r (simple_step cs) b h = ap (λ (a : Box). a.standing) (zero_changes r cs b) ∙ h
zero_step r (enter_step a cs) b h = ap (λ (a : Box). a.standing) (zero_changes r cs (enter_box b)) ∙ ap enter_standing h
zero_step r leave_step b h = ap leave_standing h

-- ** Well formed

pub conf-formed : (c : Conf) (ps : List Peer) → Sound c ps → Passes (λ y. memb y (ids ps)) c → length (ids ps) ≤ 64 → conf_formed c ≡ true
conf-formed c ps s p h =
    of-sets c
    (record {
      incoming = record { rises = s.incoming↑; few = omega (arith, length_part c.incoming (ids ps) s.incoming↑ s.ids↑ p.incoming-tracked) };
      outgoing = record { rises = s.outgoing↑; few = omega (arith, length_part c.outgoing (ids ps) s.outgoing↑ s.ids↑ p.outgoing-tracked) };
      learners = record { rises = s.learners↑; few = omega (arith, length_part c.learners (ids ps) s.learners↑ s.ids↑ p.learner-tracked) };
      staged = record { rises = s.staged↑; few = omega (arith, length_part c.staged (ids ps) s.staged↑ s.ids↑ p.staged-tracked) };
    })

pub formed-of : (s : State) → Ordered s → formed s ≡ true
unfolding formed
formed-of s o = rw (conf-formed s.conf s.peers o.sound (passes_of (is_tracked s) s.conf o.checked) o.few, o.sound.ids↑, le-leb (length (ids s.peers)) 64 o.few)

-- ** An accepted answer is applied

module _ (s : State) (o : Ordered s) (n : ℕ) (p : Step) (c : Conf) (log : List Entry) (d : Stepped s (fresh_record n s.max_inflight) p c log) where
  abbrev r : Progress
  r = fresh_record n s.max_inflight

  same-tracked : pending_tracked (ids s.peers) log ≡ (λ y. memb y (ids (enrol r log s.peers)))
  same-tracked = fun_ext (λ y. last_says_lem y log (ids s.peers) o.sound.ids↑ ∙ ap (memb y) (sym (ids-enrol r log s.peers)))

  checked-now : check (λ y. memb y (ids (enrol r log s.peers))) c ≡ ok
  checked-now = rw (← same-tracked) d.checked

  few-now : length (ids (enrol r log s.peers)) ≤ 64
  few-now = rw (ids-enrol r log s.peers) d.few

  pub apply-ok : apply_conf s c log n ≡ record { verdict = ok; state = applied s c log n }
  unfolding apply_conf log_formed
  apply-ok =
      rw (formed-of s o, conf-formed c (enrol r log s.peers) d.sound (passes_of (λ y. memb y (ids (enrol r log s.peers))) c checked-now) few-now, le-leb (length log) 256 d.short, d.fits)

  pub apply-ordered : Ordered (applied s c log n)
  apply-ordered =
      record {
        sound = d.sound;
        few = few-now;
        checked = checked-now;
        zero = ap (λ (b : Box). b.standing) (d.boxes 0) ∙ zero_step r p (box_of s 0) o.zero;
        busy = λ y. ap (λ (b : Box). is_idle b.standing) (d.boxes y) ∙ busy_step r y p (box_of s y) (o.busy y);
      }

-- a step's list can be read
abbrev pub step_short : Step → Type 0
step_short (simple_step cs) = length cs ≤ 256
step_short (enter_step a cs) = length cs ≤ 256
step_short leave_step = Unit {0}

pub asked-checked : (s : State) → Checked s → (r : Progress) (p : Step) → step_short p → (c : Conf) (log : List Entry) → ask s p ≡ accepted c log → Stepped s r p c log
unfolding ask
asked-checked s o r (simple_step cs) h c log e = simple_stepped s o r cs h c log e
asked-checked s o r (enter_step a cs) h c log e = enter_stepped s o r cs h a c log e
asked-checked s o r leave_step h c log e = leave_stepped s o r c log e

pub asked : (s : State) → Ordered s → (r : Progress) (p : Step) → step_short p → (c : Conf) (log : List Entry) → ask s p ≡ accepted c log → Stepped s r p c log
asked s o = asked-checked s (ordered-checked s o)

-- ** `in_order`, by parts

passes-ok : (v : Verdict) → passes v ≡ true → v ≡ ok
passes-ok ok h = refl
passes-ok (fault n x) h = absurd (false≢true h)

-- in at least one set
abbrev pub is_member : Places → Bool
is_member p = p.incoming || (p.outgoing || (p.learner || p.staged))

pub memb-members : (y : ℕ) (c : Conf) → memb y (members c) ≡ memb y c.incoming || (memb y c.outgoing || (memb y c.learners || memb y c.staged))
memb-members y c =
    rw (memb-all y c.incoming (insert_all c.outgoing (insert_all c.learners c.staged)), memb-all y c.outgoing (insert_all c.learners c.staged), memb-all y c.learners c.staged)

member_places : (st : Standing) → is_idle st ≡ false → (places_of st).tracked ≡ is_member (places_of st)
member_places none h = refl
member_places idle h = absurd (true≢false h)
member_places I h = refl
member_places L h = refl
member_places O h = refl
member_places IO h = refl
member_places OS h = refl

places_member : (st : Standing) → (places_of st).tracked ≡ is_member (places_of st) → is_idle st ≡ false
places_member none h = refl
places_member idle h = h
places_member I h = refl
places_member L h = refl
places_member O h = refl
places_member IO h = refl
places_member OS h = refl

-- the tracked are exactly the members
pub tracked-members : (s : State) → Ordered s → (y : ℕ) → memb y (ids s.peers) ≡ memb y (members s.conf)
tracked-members s o y = go (standing_in (spot s.conf s.peers y)) (o.sound.stands y) (o.busy y) ∙ sym (memb-members y s.conf)
  where
    go : (st : Standing) → spot s.conf s.peers y ≡ places_of st → is_idle st ≡ false → memb y (ids s.peers) ≡ is_member (spot s.conf s.peers y)
    go st q b = ap (λ (p : Places). p.tracked) q ∙ member_places st b ∙ sym (ap is_member q)

pub ordered_of : (s : State) → in_order s ≡ true → Ordered s
unfolding in_order standing_in
ordered_of s h =
    let c : Conf = s.conf in
    let xs : List ℕ = ids s.peers in
    let nowhere : Bool = not (memb 0 xs) && not (memb 0 (members c)) in
    let away : Bool = apart c.staged c.incoming in
    let h4 : formed s && passes (check (is_tracked s) c) && nowhere && same_ids xs (members c) ≡ true = and_left (formed s && passes (check (is_tracked s) c) && nowhere && same_ids xs (members c)) away h in
    let h3 : formed s && passes (check (is_tracked s) c) && nowhere ≡ true = and_left (formed s && passes (check (is_tracked s) c) && nowhere) (same_ids xs (members c)) h4 in
    let h2 : formed s && passes (check (is_tracked s) c) ≡ true = and_left (formed s && passes (check (is_tracked s) c)) nowhere h3 in
    let f : formed s ≡ true = and_left (formed s) (passes (check (is_tracked s) c)) h2 in
    let k : check (is_tracked s) c ≡ ok = passes-ok (check (is_tracked s) c) (and_right (formed s) (passes (check (is_tracked s) c)) h2) in
    let z : memb 0 xs ≡ false = not-true (memb 0 xs) (and_left (not (memb 0 xs)) (not (memb 0 (members c))) (and_right (formed s && passes (check (is_tracked s) c)) nowhere h3)) in
    let e : xs ≡ members c = same-ids xs (members c) (and_right (formed s && passes (check (is_tracked s) c) && nowhere) (same_ids xs (members c)) h4) in
    let a : Apart c = of-apart c.staged c.incoming (and_right (formed s && passes (check (is_tracked s) c) && nowhere && same_ids xs (members c)) away h) in
    let w : Whole s = whole_of s f in
    let st : (y : ℕ) → spot c s.peers y ≡ places_of (standing_in (spot c s.peers y)) = stands_of (is_tracked s) c (passes_of (is_tracked s) c k) a in
    record {
      sound = record {
        incoming↑ = w.sets.incoming.rises;
        outgoing↑ = w.sets.outgoing.rises;
        learners↑ = w.sets.learners.rises;
        staged↑ = w.sets.staged.rises;
        ids↑ = w.tracked.rises;
        stands = st;
      };
      few = w.tracked.few;
      checked = k;
      zero = rw z;
      busy = λ y. busy y (standing_in (spot c s.peers y)) (st y) (ap (memb y) e ∙ memb-members y c);
    }
  where
    busy : (y : ℕ) (st : Standing) → spot s.conf s.peers y ≡ places_of st → memb y (ids s.peers) ≡ is_member (spot s.conf s.peers y) → is_idle st ≡ false
    busy y st q e = places_member st (sym (ap (λ (p : Places). p.tracked) q) ∙ e ∙ ap is_member q)

-- no box is both staged and an incoming voter
one_role : (st : Standing) → (places_of st).staged ≡ true → (places_of st).incoming ≡ false
one_role none m = refl
one_role idle m = refl
one_role I m = absurd (false≢true m)
one_role L m = refl
one_role O m = refl
one_role IO m = absurd (false≢true m)
one_role OS m = refl

pub staged-apart : (s : State) → Ordered s → Apart s.conf
staged-apart s o x m = go (standing_in (spot s.conf s.peers x)) (o.sound.stands x)
  where
    go : (st : Standing) → spot s.conf s.peers x ≡ places_of st → memb x s.conf.incoming ≡ false
    go st q = ap (λ (p : Places). p.incoming) q ∙ one_role st (sym (ap (λ (p : Places). p.staged) q) ∙ m)

pub in_order_lem : (s : State) → Ordered s → in_order s ≡ true
unfolding in_order
in_order_lem s o =
    rw (formed-of s o, o.checked, ← same, zero_out, ids-same (ids s.peers), apart_of s.conf.staged s.conf.incoming (staged-apart s o))
  where
    zero_out : memb 0 (ids s.peers) ≡ false
    zero_out = ap (λ (p : Places). p.tracked) (o.sound.stands 0) ∙ ap (λ (t : Standing). (places_of t).tracked) o.zero

    same : ids s.peers ≡ members s.conf
    same =
        ascending_ext (ids s.peers) (members s.conf) o.sound.ids↑
        (ascending-all s.conf.incoming (insert_all s.conf.outgoing (insert_all s.conf.learners s.conf.staged))
        (ascending-all s.conf.outgoing (insert_all s.conf.learners s.conf.staged) (ascending-all s.conf.learners s.conf.staged o.sound.staged↑)))
        (tracked-members s o)
