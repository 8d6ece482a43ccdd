use Rattle.std.proofs.Common.{◌≡◌, ◌∙◌, sym, ap, ◌<◌, ◌≤◌, ◌^◌, [], pos, length, map, get_or, arith, FitsSigned, w64, unsigned_abs}
use Rattle.std.proofs.lemmas.Int.{ints, to_z-of_z, fits_signed_from_abs}
use Rattle.std.proofs.lemmas.List.{length-map, get_or-map, get_or_read}
use Rattle.core_lp.specs.CaseProgramme.{weight_in, weights_in}
use Rattle.core_lp.proofs.Pools.{pools-count, row-is, row-length, weight-at, weight-small}
use Rattle.core_lp.proofs.weights.weight.Goals as goal

pub offset_bounds-all-pool : goal.offset_bounds-all-pool
offset_bounds-all-pool c = let few = c.requires.kept.pools.0 in omega (arith, c.requires.pool, few)

pub bounds-all-pool : goal.bounds-all-pool
bounds-all-pool c =
    let count = pools-count c.args.case.now (map (λ list. list.items) c.args.all.now) c.requires.all in
    let same = length-map c.args.all.now (λ list. list.items) in
    omega (arith, c.requires.pool, count, same)

pub index-requires : goal.index-requires
index-requires c =
    let case = c.args.case.now in
    let v = c.index-all-pool.result in
    let under = bounds-all-pool c.before in
    let is : v.items ≡ weights_in case c.args.pool =
    ap (λ x. x.items) c.index-all-pool.is ∙ sym (get_or-map (λ list. list.items) c.args.all.now c.args.pool v [] under)
    ∙ row-is case (map (λ list. list.items) c.args.all.now) c.args.pool c.requires.all c.requires.pool in
    let count = ap length is ∙ row-length case c.args.pool in
    omega (arith, count, c.requires.instrument, v.ok.0)

weight-here : (c : goal.After-result-1) → (c.index.result.now ≡ weight_in c.args.case.now c.args.pool c.args.instrument) × (unsigned_abs c.index.result.now ≤ 10 ^ 6)
weight-here c =
    let case = c.args.case.now in
    let v = c.index-all-pool.result in
    let x = c.index.result.now in
    let pools = pools-count case (map (λ list. list.items) c.args.all.now) c.requires.all in
    let same = length-map c.args.all.now (λ list. list.items) in
    let under : c.args.pool < length c.args.all.now = omega (arith, c.requires.pool, pools, same) in
    let is : v.items ≡ weights_in case c.args.pool =
    ap (λ x. x.items) c.index-all-pool.is ∙ sym (get_or-map (λ list. list.items) c.args.all.now c.args.pool v [] under)
    ∙ row-is case (map (λ list. list.items) c.args.all.now) c.args.pool c.requires.all c.requires.pool in
    let count = ap length is ∙ row-length case c.args.pool in
    let here : x ≡ weight_in case c.args.pool c.args.instrument =
    get_or_read v.items c.args.instrument x (omega (arith, count, c.requires.instrument)) c.index.ensures (pos 0)
    ∙ ap (λ xs. get_or xs c.args.instrument (pos 0)) is ∙ weight-at case c.args.pool c.args.instrument c.requires.instrument in
    let bound = weight-small case c.args.pool c.args.instrument c.requires.kept in
    (here, omega (arith, ints, here, bound))

pub returns : goal.returns
returns c =
    let h = weight-here c in
    let small : unsigned_abs c.index.result.now < 2 ^ 63 = omega (arith, h.1) in
    let fits : FitsSigned w64 c.index.result.now = fits_signed_from_abs w64 c.index.result.now small in
    simp to_z-of_z (record { value = h.0; small = h.1 })
