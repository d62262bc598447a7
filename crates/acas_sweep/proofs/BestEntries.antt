-- The best entries at a vertex, by the means there and by the layer below.
use Rattle.std.proofs.Common.{◌≡◌, ◌≢◌, ℕ, ◌+◌, ◌^◌, ◌<◌, ◌+ℤ◌, List, [], length, set, ap, sym, subst, ◌∙◌, arith}
use Rattle.std.proofs.lemmas.List.{get_or-set_other, get_or-set_same, length-set}
use borrow.Author.Count.{below_more}
use Rattle.acas_spec.specs.Limits.{IsModel}
use Rattle.acas_spec.specs.Model.{ModelData, choices_at, states}
use Rattle.acas_grid.specs.States.{vertex_at}
use Rattle.acas_spec.specs.declared.place.Vertex.{Vertex}
use Rattle.acas_frac.specs.Rounding.{down, up}
use Rattle.acas_units.specs.declared.pair.Entry.{Entry}
use Rattle.acas_units.specs.declared.pair.Pair.{Pair}
use Rattle.acas_process.specs.Values.{choice_value, millionths}
use Rattle.acas_process.specs.Cost.{MayChoose, cost_of}
use Rattle.acas_process.proofs.Least.{first_least-same, least-same}
use Rattle.acas_process.proofs.ModelLaws.{is_chosen}
use Rattle.acas_sweep.specs.Best.{AreBest, AreBestUnder, AreColumnBest, AreColumnEntries, AreVertexEntries, ColumnLeavesRoom, IsBest, IsOver, LeaveColumnOthers, LeaveOthers, LeaveRoom, entries_in, entry_at}
use Rattle.acas_means.specs.Choices.{value_by_mean}
use Rattle.acas_means.specs.Columns.{AreColumnMeans, pairs_at, vertex_in}
use Rattle.acas_means.specs.Layer.{AreWithin, layer_values, pair_at, value_at}
use Rattle.acas_means.specs.Means.{AreVertexMeans}
use Rattle.acas_means.specs.declared.layer.Side.{Side}
use Rattle.acas_means.specs.declared.layer.Side.TheVariants.{Upper, Lower}
use Rattle.acas_means.proofs.TableMeans.{means_bounded}

-- ---- by the means

-- no mean is larger than the largest value, so there is room for a cost beside it
pub leave_room : (m : ModelData) (below : List Pair) (x : Vertex) (means : List Pair) → IsModel m → length below ≡ states m.grid → AreVertexMeans m below x means
    → ((side : Side) → AreWithin (2 ^ 62) side below) → LeaveRoom m means
leave_room m below x means valid all are small = record {
  each = λ side a known. means_bounded m below x a (pair_at means a) (2 ^ 62) side valid known all (are.each a known) (small side);
}

-- so at each place of a column
pub column_leaves_room : (m : ModelData) (below : List Pair) (column : ℕ) (means : List (List Pair)) → IsModel m → length below ≡ states m.grid
    → AreColumnMeans m below column means → ((side : Side) → AreWithin (2 ^ 62) side below) → ColumnLeavesRoom m means
column_leaves_room m below column means valid all are small = record {
  each = λ i here. leave_room m below (vertex_at m.grid (vertex_in m.grid column i)) (pairs_at means i) valid all (are.each i here) small;
}

-- of the entries under the first present advisories that are left, and of the one that is written
pub best_next : (m : ModelData) (means : List Pair) (p : ℕ) (old new : List Entry) → AreBest m means p old → LeaveOthers p old new
    → IsBest m means p (choices_at m p) (entry_at new p) → AreBest m means (p + 1) new
best_next m means p old new so_far left best = record {
  each = below_more (λ (k : ℕ). IsBest m means k (choices_at m k) (entry_at new k)) p
      (λ k h. let apart : k ≢ p = λ e. absurd (omega arith) in subst (λ (e : Entry). IsBest m means k (choices_at m k) e) (sym (left.each k apart)) (so_far.each k h)) best;
}

-- so at each place of a column
pub column_best_next : (m : ModelData) (means : List (List Pair)) (p : ℕ) (old new : List (List Entry)) → AreColumnBest m means p old → LeaveColumnOthers p old new
    → AreBestUnder m means p (length m.grid.h) new → AreColumnBest m means (p + 1) new
column_best_next m means p old new so_far left best = record {
  each = λ i here. best_next m (pairs_at means i) p (entries_in old i) (entries_in new i) (so_far.each i here) (left.each i) (best.each i here);
}

-- ---- by the places of a column

-- of the first places, and of the entries that are written at the next one
best_under_next : (m : ModelData) (means : List (List Pair)) (p i : ℕ) (lists : List (List Entry)) (own : List Entry) → i < length lists → AreBestUnder m means p i lists
    → IsBest m (pairs_at means i) p (choices_at m p) (entry_at own p) → AreBestUnder m means p (i + 1) (set lists i own)
best_under_next m means p i lists own within so_far best = record {
  each = below_more (λ (k : ℕ). IsBest m (pairs_at means k) p (choices_at m p) (entry_at (entries_in (set lists i own) k) p)) i
      (λ k h. let apart : k ≢ i = λ e. absurd (omega arith) in
      subst (λ (es : List Entry). IsBest m (pairs_at means k) p (choices_at m p) (entry_at es p)) (sym (get_or-set_other lists i k own [] apart)) (so_far.each k h))
      (subst (λ (es : List Entry). IsBest m (pairs_at means i) p (choices_at m p) (entry_at es p)) (sym (get_or-set_same lists i own [] within)) best);
}

-- so of those at the next two places
pub best_under_two : (m : ModelData) (means : List (List Pair)) (p i : ℕ) (lists : List (List Entry)) (own next : List Entry) → i + 1 < length lists
    → AreBestUnder m means p i lists → IsBest m (pairs_at means i) p (choices_at m p) (entry_at own p)
    → IsBest m (pairs_at means (i + 1)) p (choices_at m p) (entry_at next p) → AreBestUnder m means p (i + 2) (set (set lists i own) (i + 1) next)
best_under_two m means p i lists own next within so_far best next_best =
    let long : length (set lists i own) ≡ length lists = length-set lists i own in
    let two : i + 1 + 1 ≡ i + 2 = omega arith in
    subst (λ (k : ℕ). AreBestUnder m means p k (set (set lists i own) (i + 1) next)) two
    (best_under_next m means p (i + 1) (set lists i own) next (omega (arith, long, within)) (best_under_next m means p i lists own (omega (arith, within)) so_far best) next_best)

-- ---- by the layer below

over_best : (m : ModelData) (below means : List Pair) (x : Vertex) (p : ℕ) (e : Entry) → IsModel m → p < m.grid.advisories → AreVertexMeans m below x means
    → IsBest m means p (choices_at m p) e → IsOver m below p x e
over_best m below means x p e valid known are best = record {
  upper = best.upper ∙ least-same _ _ (choices_at m p) upper;
  lower = best.lower ∙ least-same _ _ (choices_at m p) lower;
  advice = best.advice ∙ first_least-same _ _ (choices_at m p) upper;
}
  where
    upper : (a : ℕ) → MayChoose m p a → value_by_mean m p (value_at Upper means) a ≡ choice_value up m (layer_values Upper m.grid below) p x a
    upper a chosen = ap (λ z. z +ℤ millionths (cost_of m p a)) ((are.each a ((is_chosen m p a valid known chosen).inside)).upper)

    lower : (a : ℕ) → MayChoose m p a → value_by_mean m p (value_at Lower means) a ≡ choice_value down m (layer_values Lower m.grid below) p x a
    lower a chosen = ap (λ z. z +ℤ millionths (cost_of m p a)) ((are.each a ((is_chosen m p a valid known chosen).inside)).lower)

-- the best entries by the means of the layer below are those over it
pub entries_over : (m : ModelData) (below : List Pair) (x : Vertex) (means : List Pair) (entries : List Entry) → IsModel m → AreVertexMeans m below x means
    → AreBest m means m.grid.advisories entries → AreVertexEntries m below x entries
entries_over m below x means entries valid are best = record {
  each = λ p known. over_best m below means x p (entry_at entries p) valid known are (best.each p known);
}

-- so at the vertices of a column
pub column_entries_over : (m : ModelData) (below : List Pair) (column : ℕ) (means : List (List Pair)) (lists : List (List Entry)) → IsModel m
    → AreColumnMeans m below column means → AreColumnBest m means m.grid.advisories lists → AreColumnEntries m below column lists
column_entries_over m below column means lists valid are best = record {
  each = λ i here. entries_over m below (vertex_at m.grid (vertex_in m.grid column i)) (pairs_at means i) (entries_in lists i) valid (are.each i here) (best.each i here);
}
