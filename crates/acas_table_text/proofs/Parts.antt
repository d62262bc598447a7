-- Parts of bytes.
use Rattle.std.proofs.Common.{◌≡◌, ℕ, zero, suc, ◌+◌, ◌-◌, ◌<◌, ◌≤◌, List, [], ◌∷◌, ◌++◌, length, take, drop, Bool, cond, None, Some, sym, ◌∙◌, ap, arith}
use Rattle.std.proofs.Math.Seq.{take-add}
use Rattle.std.proofs.lemmas.List.{take-take, drop-take, drop-drop, length-take-le, length-drop, take_at, drop_at}
use Rattle.std.proofs.lemmas.Bool.{le-ltb, lt-ltb}
use Rattle.acas_outside.specs.Bytes.{IsBytes}
use Rattle.acas_table_text.specs.Format.{part}
use Rattle.acas_table_text.specs.Faults.{end_fault}
use Rattle.acas_table_text.specs.declared.fault.TableFault.TheVariants.{Length}

-- bytes behind bytes
pub bytes_of_both : (a b : List ℕ) → IsBytes a → IsBytes b → IsBytes (a ++ b)
bytes_of_both [] b front behind i = behind i
bytes_of_both (x ∷ a) b front behind zero = front 0
bytes_of_both (x ∷ a) b front behind (suc i) = bytes_of_both a b (λ j. front (suc j)) behind i

-- the n bytes at a place are there, or the bytes end before
pub end_none : (e : ℕ) (bytes : List ℕ) (at n : ℕ) → at + n ≤ length bytes → end_fault e bytes at n ≡ None
end_none e bytes at n within = ap (λ (b : Bool). cond b (Some (Length e (length bytes))) None) (le-ltb (length bytes) (at + n) within)

pub end_found : (e : ℕ) (bytes : List ℕ) (at n : ℕ) → length bytes < at + n → end_fault e bytes at n ≡ Some (Length e (length bytes))
end_found e bytes at n short = ap (λ (b : Bool). cond b (Some (Length e (length bytes))) None) (lt-ltb (length bytes) (at + n) short)

-- the first n of the bytes at hand
pub part-first : (a b : List ℕ) (i j n k : ℕ) → n ≤ k → part a i k ≡ part b j k → part a i n ≡ part b j n
part-first a b i j n k within same =
    sym (take-take n k (drop i a) within) ∙ ap (λ (l : List ℕ). take n l) same ∙ take-take n k (drop j b) within

part-rest_of : (a : List ℕ) (i n k : ℕ) → n ≤ k → drop n (part a i k) ≡ part a (i + n) (k - n)
part-rest_of a i n k within =
    ap (λ (m : ℕ). drop n (take m (drop i a))) (omega arith)
    ∙ drop-take n (k - n) (drop i a)
    ∙ ap (λ (l : List ℕ). take (k - n) l) (drop-drop n i a)

-- and those behind them
pub part-rest : (a b : List ℕ) (i j n k : ℕ) → n ≤ k → part a i k ≡ part b j k → part a (i + n) (k - n) ≡ part b (j + n) (k - n)
part-rest a b i j n k within same =
    sym (part-rest_of a i n k within) ∙ ap (λ (l : List ℕ). drop n l) same ∙ part-rest_of b j n k within

pub part-join : (a : List ℕ) (i k n : ℕ) → part a i k ++ part a (i + k) n ≡ part a i (k + n)
part-join a i k n =
    ap (λ (l : List ℕ). part a i k ++ take n l) (sym (drop-drop k i a)) ∙ sym (take-add k n (drop i a))

-- what stands before the place where bytes are cut
pub part-take : (bytes : List ℕ) (n at k : ℕ) → at + k ≤ n → part (take n bytes) at k ≡ part bytes at k
part-take bytes n at k within =
    sym (drop-take at k (take n bytes)) ∙ ap (λ (l : List ℕ). drop at l) (take-take (at + k) n bytes within) ∙ drop-take at k bytes

-- the bytes that stand behind others
pub part-at : (t x y rest : List ℕ) (at n : ℕ) → t ≡ x ++ (y ++ rest) → length x ≡ at → length y ≡ n → part t at n ≡ y
part-at t x y rest at n is before long =
    ap (λ (l : List ℕ). part l at n) is ∙ ap (λ (l : List ℕ). take n l) (drop_at x (y ++ rest) at before) ∙ take_at y rest n long

pub length-part : (t : List ℕ) (at n : ℕ) → at + n ≤ length t → length (part t at n) ≡ n
length-part t at n within = length-take-le n (drop at t) (omega (arith, length-drop at t))
