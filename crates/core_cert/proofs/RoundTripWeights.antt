-- The weights of limits, pools and full closings that the last records of a certificate state.
use Rattle.std.proofs.Common.{◌≡◌, ◌∷◌, ◌++◌, [], ℕ, ◌<◌, List, Bool, false, None, refl, codes, arith}
use Rattle.std.specs.List.{find}
use Rattle.std.proofs.lemmas.List.Elements.{All-cons, All-nil}
use Rattle.core_sums.specs.Places.{at}
use Rattle.core_rows.specs.Names.{Record}
use Rattle.core_book.specs.View.{CaseView}
use Rattle.core_book.specs.WellFormed.{IsCase}
use Rattle.core_model.specs.Closing.{line_count}
use Rattle.core_model.specs.Layout.{limit_count, pool_count}
use Rattle.core_model.specs.Fits.{WeightsFit}
use Rattle.core_cert.specs.declared.kinds.RecordKind.{RecordKind}
use Rattle.core_cert.specs.declared.kinds.RecordKind.TheVariants.{Limit, Pool, Full, End}
use Rattle.core_cert.specs.Written.{full_records, limit_records, pool_records}
use Rattle.core_cert.proofs.RoundTripOrder.{HasKind, same_kind, limit_pool, pool_full, full_end}
use Rattle.core_cert.proofs.RoundTripBlocks.{States, is_at, none-append, others-none, states-left, states-right, block-others}
use Rattle.core_cert.proofs.RoundTripRest.{IsRest, rest-append, rest-end, the_end}
use Rattle.core_cert.proofs.RoundTripSections.{fulls-block, limits-block, pools-block}
use Rattle.core_model.specs.declared.cert.Weights as weights

-- the records of limits, pools and full closings, and the last
abbrev pub fulls_on : CaseView → weights.Weights → List Record
fulls_on c w = full_records c w ++ the_end

abbrev pub pools_on : CaseView → weights.Weights → List Record
pools_on c w = pool_records c w ++ fulls_on c w

abbrev pub limits_on : CaseView → weights.Weights → List Record
limits_on c w = limit_records c w ++ pools_on c w

-- they may stand where limits may
pub limits-rest : (c : CaseView) (refusing : Bool) (w : weights.Weights) → IsCase c → WeightsFit c w → IsRest c refusing Limit (limits_on c w)
limits-rest c refusing w kept fits =
    rest-append c refusing Limit Pool (at w.limit) (limit_count c) (limit_records c w) (pools_on c w) (limit_pool refusing) (limits-block c refusing w kept fits)
    (rest-append c refusing Pool Full (at w.pool) (pool_count c) (pool_records c w) (fulls_on c w) (pool_full refusing) (pools-block c refusing w kept fits)
    (rest-append c refusing Full End (at w.full) (line_count c) (full_records c w) the_end (full_end refusing) (fulls-block c refusing w kept fits) (rest-end c refusing)))

-- a section has no record of another kind
no-limit : (c : CaseView) (refusing : Bool) (w : weights.Weights) (kind : RecordKind) (p : ℕ) → IsCase c → WeightsFit c w → same_kind kind Limit ≡ false → find (is_at c kind p) (limit_records c w) ≡ None
no-limit c refusing w kind p kept fits = block-others c refusing kind Limit (at w.limit) 0 (limit_count c) p (limit_records c w) (limits-block c refusing w kept fits)

no-pool : (c : CaseView) (refusing : Bool) (w : weights.Weights) (kind : RecordKind) (p : ℕ) → IsCase c → WeightsFit c w → same_kind kind Pool ≡ false → find (is_at c kind p) (pool_records c w) ≡ None
no-pool c refusing w kind p kept fits = block-others c refusing kind Pool (at w.pool) 0 (pool_count c) p (pool_records c w) (pools-block c refusing w kept fits)

no-full : (c : CaseView) (refusing : Bool) (w : weights.Weights) (kind : RecordKind) (p : ℕ) → IsCase c → WeightsFit c w → same_kind kind Full ≡ false → find (is_at c kind p) (full_records c w) ≡ None
no-full c refusing w kind p kept fits = block-others c refusing kind Full (at w.full) 0 (line_count c) p (full_records c w) (fulls-block c refusing w kept fits)

no-end : (c : CaseView) (kind : RecordKind) (p : ℕ) → same_kind kind End ≡ false → find (is_at c kind p) the_end ≡ None
no-end c kind p = others-none c kind End p the_end (All-cons (HasKind End) (codes "end" ∷ []) [] refl (All-nil (HasKind End)))

-- nor have all of them
no-fulls : (c : CaseView) (refusing : Bool) (w : weights.Weights) (kind : RecordKind) (p : ℕ) → IsCase c → WeightsFit c w
    → same_kind kind Full ≡ false → same_kind kind End ≡ false → find (is_at c kind p) (fulls_on c w) ≡ None
no-fulls c refusing w kind p kept fits full end = none-append (is_at c kind p) (full_records c w) the_end (no-full c refusing w kind p kept fits full) (no-end c kind p end)

no-pools : (c : CaseView) (refusing : Bool) (w : weights.Weights) (kind : RecordKind) (p : ℕ) → IsCase c → WeightsFit c w
    → same_kind kind Pool ≡ false → same_kind kind Full ≡ false → same_kind kind End ≡ false → find (is_at c kind p) (pools_on c w) ≡ None
no-pools c refusing w kind p kept fits pool full end =
    none-append (is_at c kind p) (pool_records c w) (fulls_on c w) (no-pool c refusing w kind p kept fits pool) (no-fulls c refusing w kind p kept fits full end)

pub no-limits : (c : CaseView) (refusing : Bool) (w : weights.Weights) (kind : RecordKind) (p : ℕ) → IsCase c → WeightsFit c w
    → same_kind kind Limit ≡ false → same_kind kind Pool ≡ false → same_kind kind Full ≡ false → same_kind kind End ≡ false → find (is_at c kind p) (limits_on c w) ≡ None
no-limits c refusing w kind p kept fits limit pool full end =
    none-append (is_at c kind p) (limit_records c w) (pools_on c w) (no-limit c refusing w kind p kept fits limit) (no-pools c refusing w kind p kept fits pool full end)

-- they state the weights
pub limit-stated : (c : CaseView) (refusing : Bool) (w : weights.Weights) (p : ℕ) → IsCase c → WeightsFit c w → p < limit_count c
    → States (is_at c Limit p) (limits_on c w) (at w.limit p)
limit-stated c refusing w p kept fits small =
    states-left (is_at c Limit p) (limit_records c w) (pools_on c w) (at w.limit p) ((limits-block c refusing w kept fits).within p (omega arith) small) (no-pools c refusing w Limit p kept fits refl refl refl)

pub pool-stated : (c : CaseView) (refusing : Bool) (w : weights.Weights) (p : ℕ) → IsCase c → WeightsFit c w → p < pool_count c
    → States (is_at c Pool p) (limits_on c w) (at w.pool p)
pool-stated c refusing w p kept fits small =
    states-right (is_at c Pool p) (limit_records c w) (pools_on c w) (at w.pool p) (no-limit c refusing w Pool p kept fits refl)
    (states-left (is_at c Pool p) (pool_records c w) (fulls_on c w) (at w.pool p) ((pools-block c refusing w kept fits).within p (omega arith) small) (no-fulls c refusing w Pool p kept fits refl refl))

pub full-stated : (c : CaseView) (refusing : Bool) (w : weights.Weights) (p : ℕ) → IsCase c → WeightsFit c w → p < line_count c
    → States (is_at c Full p) (limits_on c w) (at w.full p)
full-stated c refusing w p kept fits small =
    states-right (is_at c Full p) (limit_records c w) (pools_on c w) (at w.full p) (no-limit c refusing w Full p kept fits refl)
    (states-right (is_at c Full p) (pool_records c w) (fulls_on c w) (at w.full p) (no-pool c refusing w Full p kept fits refl)
    (states-left (is_at c Full p) (full_records c w) the_end (at w.full p) ((fulls-block c refusing w kept fits).within p (omega arith) small) (no-end c Full p refl)))
