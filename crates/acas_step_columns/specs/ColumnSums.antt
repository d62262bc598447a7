-- What the means of a column are formed of.
use Rattle.std.specs.Prelude.{◌≡◌, ℕ, ◌+◌, ◌*◌, ◌^◌, ◌<◌, ◌≤◌, ℤ, pos, List, length, get_or}
use Rattle.acas_spec.specs.Model.{states, total_weight}
use Rattle.acas_means.specs.Columns.{columns}
use Rattle.acas_means.specs.Reach.{IsReach}
use Rattle.acas_step_narrow.specs.ColumnBlends.{AreColumnSums}
use Rattle.acas_step_narrow.specs.declared.wide_sums.TheConstants.{WIDE_SIZE}
use Rattle.acas_step_stencils.specs.Stencils.{AreUsable}
use Rattle.acas_step_columns.specs.declared.columns.Source.{Source}
use Rattle.acas_step_columns.specs.declared.columns.Source.TheVariants.{Twin, Sums, Wide, Layer}
use Rattle.acas_step_columns.specs.declared.means_over.MeansOver.{MeansOver}

-- stencils are those of a model, with a second to go, a layer below has its reach, and there are the column and the advisory
pub record HasColumn (over : MeansOver) (j a : ℕ) : Type 0 where
  pub usable : AreUsable over.model.now over.stencils.now
  pub reach : IsReach over.model.now.grid over.below.now over.reach
  pub column : j < columns over.model.now.grid
  pub advisory : a < over.model.now.grid.advisories
  pub below : length over.below.now ≡ states over.model.now.grid

-- the means under the advisory a are those under an earlier one, or they are formed of sums that have 64 bits, or of sums that have 128,
-- or of the layer
abbrev pub IsSource : MeansOver → List ℤ → ℕ → ℕ → List ℕ → List ℕ → Source → Type 0
IsSource over changes column a uppers lowers (Twin b) =
    (b < a) × (get_or over.reach.likes b 0 ≡ get_or over.reach.likes a 0) × (get_or changes b (pos 0) ≡ get_or changes a (pos 0))
IsSource over changes column a uppers lowers Sums =
    (total_weight over.model.now * (2 * over.reach.size + 1) < 2 ^ 63)
    × AreColumnSums over.model.now over.below.now over.reach.size column a (length over.model.now.sigmas) uppers lowers
IsSource over changes column a uppers lowers Wide = over.reach.size ≤ WIDE_SIZE
IsSource over changes column a uppers lowers Layer = a < over.model.now.grid.advisories
