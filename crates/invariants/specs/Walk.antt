-- Two ascending lists walked side by side, looking for the first id that is, or is not, in both. Assumes nothing.
use Rattle.std.specs.Prelude.{Option, Some, None, ℕ, Bool, true, false, cond, List, [], ◌∷◌, eqb, ltb, drop}
use Rattle.rules.specs.Answers as rules
use Rattle.rules.specs.Answers.{ok, fault}
use Rattle.idset.specs.Places.{rank, first_is}

-- what is left of ys once those less than x are passed
abbrev pub past : ℕ → List ℕ → List ℕ
past x ys = drop (rank x ys) ys

-- the first of xs that the walk does not meet in ys
unfoldable pub first_out : List ℕ → List ℕ → Option ℕ
first_out [] ys = None
first_out (x ∷ xs) ys = cond (first_is x (past x ys)) (first_out xs (past x ys)) (Some x)

-- the first of xs that the walk meets in ys
unfoldable pub first_in : List ℕ → List ℕ → Option ℕ
first_in [] ys = None
first_in (x ∷ xs) ys = cond (first_is x (past x ys)) (Some x) (first_in xs (past x ys))

-- the first that it meets, or the first that it does not
abbrev pub first_where : Bool → List ℕ → List ℕ → Option ℕ
first_where true = first_in
first_where false = first_out

-- a fault of this number at the id, if there is one
abbrev pub fault_at : Option ℕ → ℕ → rules.Verdict
fault_at None n = ok
fault_at (Some x) n = fault n x

-- the fault at the lesser id; the first of the two where both are at one id
abbrev pub sooner : rules.Verdict → rules.Verdict → rules.Verdict
sooner ok w = w
sooner (fault n x) ok = fault n x
sooner (fault n x) (fault m y) = cond (ltb y x) (fault m y) (fault n x)
