-- A layer that is written column by column over the one below, and how large its values are.
use Rattle.std.proofs.Common.{◌≡◌, ◌≢◌, ℕ, ◌+◌, ◌%◌, ◌^◌, ◌<◌, ◌≤◌, ℤ, ◌+ℤ◌, List, length, unsigned_abs, refl, ap, sym, subst, ◌∙◌, arith}
use Rattle.std.proofs.lemmas.Int.{ints}
use Rattle.acas_spec.specs.Limits.{IsModel}
use Rattle.acas_spec.specs.Model.{ModelData, states, vertices}
use Rattle.acas_spec.specs.Table.{Policy}
use Rattle.acas_spec.specs.declared.place.Vertex.{Vertex}
use Rattle.acas_frac.specs.Rounding.{down, up}
use Rattle.acas_grid.specs.States.{state_present, state_vertex, vertex_at}
use Rattle.acas_grid.proofs.StateNumbers.{state_present-below}
use Rattle.acas_units.specs.declared.pair.Pair.{Pair}
use Rattle.acas_process.specs.Values.{mean_value}
use Rattle.acas_means.specs.Columns.{AreColumnMeans, columns, pairs_at, vertex_in}
use Rattle.acas_means.specs.Layer.{AreWithin, layer_values, pair_at, value_of}
use Rattle.acas_means.specs.Means.{AreMeansAt, AreVertexMeans}
use Rattle.acas_means.specs.declared.layer.Side.{Side}
use Rattle.acas_means.specs.declared.layer.Side.TheVariants.{Lower, Upper}
use Rattle.acas_means.proofs.ColumnPlaces.{column_below}
use Rattle.acas_means.proofs.TableMeans.{means_bounded}
use Rattle.acas_risk.specs.Layers.{AreOver, AreSmall, IsOver, IsPlanned, LeaveRoom, altitude_at, column_at, cost_at, given_at}
use Rattle.acas_risk.proofs.Written.{altitude-below, turn_next, vertex_of}

-- no mean is larger than the largest value, so there is room for a cost beside it
pub leave_room : (m : ModelData) (below : List Pair) (x : Vertex) (means : List Pair) → IsModel m → length below ≡ states m.grid → AreVertexMeans m below x means
    → ((side : Side) → AreWithin (2 ^ 62) side below) → LeaveRoom m.grid means
leave_room m below x means valid all are small = record {
  each = λ side a known. means_bounded m below x a (pair_at means a) (2 ^ 62) side valid known all (are.each a known) (small side);
}

-- ---- column by column

-- the pair of a state in a column, by the means that were formed there
over_of : (m : ModelData) (costs : List (List ℤ)) (policy : Policy) (n : ℕ) (below : List Pair) (column : ℕ) (lists : List (List Pair)) (s : ℕ) (pair : Pair) → AreColumnMeans m below column lists → s < states m.grid → column_at m.grid s ≡ column
    → IsPlanned m.grid costs policy n (pairs_at lists (altitude_at m.grid s)) s pair → IsOver m costs policy n below s pair
over_of m costs policy n below column lists s pair formed inside here planned =
    let g = m.grid in
    let i : ℕ = altitude_at g s in
    let a : ℕ = given_at g policy n s in
    let at : vertex_in g column i ≡ s % vertices g = sym (vertex_of g s column i here refl) in
    let means : AreMeansAt m below (state_vertex g s) a (pair_at (pairs_at lists i) a) =
    subst (λ (v : ℕ). AreMeansAt m below (vertex_at g v) a (pair_at (pairs_at lists i) a)) at ((formed.each i (altitude-below g s inside)).each a planned.known) in
    record {
      known = planned.known;
      upper = ap (λ (p : Pair). p.upper) planned.value ∙ ap (λ z. z +ℤ cost_at g costs policy n s) means.upper;
      lower = ap (λ (p : Pair). p.lower) planned.value ∙ ap (λ z. z +ℤ cost_at g costs policy n s) means.lower;
    }

pub over_next : (m : ModelData) (costs : List (List ℤ)) (policy : Policy) (n : ℕ) (below : List Pair) (column : ℕ) (lists : List (List Pair)) (pairs pairs' : List Pair) → AreColumnMeans m below column lists
    → AreOver m costs policy n below column pairs
    → ((s : ℕ) → s < states m.grid → column_at m.grid s ≡ column → IsPlanned m.grid costs policy n (pairs_at lists (altitude_at m.grid s)) s (pair_at pairs' s))
    → ((s : ℕ) → column_at m.grid s ≢ column → pair_at pairs' s ≡ pair_at pairs s)
    → AreOver m costs policy n below (column + 1) pairs'
over_next m costs policy n below column lists pairs pairs' formed so_far written others = record {
  each = λ s inside before.
      turn_next (λ s. column_at m.grid s) (λ s x. s < states m.grid → IsOver m costs policy n below s x) column pairs pairs' (λ s earlier within. so_far.each s within earlier)
      (λ s now within. over_of m costs policy n below column lists s (pair_at pairs' s) formed within now (written s within now))
      (λ s other is within. subst (λ (x : Pair). IsOver m costs policy n below s x) (sym (others s other)) (is within)) s before inside;
}

-- ---- how large its values are

pub larger_by_a_cost : (m : ModelData) (costs : List (List ℤ)) (policy : Policy) (n most : ℕ) (below pairs : List Pair) → IsModel m → AreSmall m.grid costs → length below ≡ states m.grid → length pairs ≡ states m.grid
    → ((side : Side) → AreWithin most side below) → AreOver m costs policy n below (columns m.grid) pairs → (side : Side) → AreWithin (most + 10 ^ 15) side pairs
larger_by_a_cost m costs policy n most below pairs valid small all long within over side = record { bounded = λ s room. bounded side s (omega (arith, room, long)) }
  where
    mean : ℕ → Pair
    mean s = record {
      upper = mean_value up m (layer_values Upper m.grid below) (state_vertex m.grid s) (given_at m.grid policy n s);
      lower = mean_value down m (layer_values Lower m.grid below) (state_vertex m.grid s) (given_at m.grid policy n s);
    }

    is : (s : ℕ) → s < states m.grid → IsOver m costs policy n below s (pair_at pairs s)
    is s inside = over.each s inside (column_below m.grid s inside)

    sized : (side : Side) (s : ℕ) → s < states m.grid → unsigned_abs (value_of side (mean s)) ≤ most
    sized side s inside =
        means_bounded m below (state_vertex m.grid s) (given_at m.grid policy n s) (mean s) most side valid (is s inside).known all (record { upper = refl; lower = refl }) (within side)

    priced : (s : ℕ) → s < states m.grid → unsigned_abs (cost_at m.grid costs policy n s) ≤ 10 ^ 15
    priced s inside = small.each (state_present m.grid s) (given_at m.grid policy n s) (state_present-below m.grid s inside) (is s inside).known

    bounded : (side : Side) (s : ℕ) → s < states m.grid → unsigned_abs (value_of side (pair_at pairs s)) ≤ most + 10 ^ 15
    bounded Upper s inside = omega (arith, ints, (is s inside).upper, sized Upper s inside, priced s inside)
    bounded Lower s inside = omega (arith, ints, (is s inside).lower, sized Lower s inside, priced s inside)

pub within_more : (some more : ℕ) (side : Side) (pairs : List Pair) → some ≤ more → AreWithin some side pairs → AreWithin more side pairs
within_more some more side pairs larger within = record { bounded = λ place room. omega (arith, larger, within.bounded place room) }
