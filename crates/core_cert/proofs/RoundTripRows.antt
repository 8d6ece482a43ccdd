-- Worked texts of certificates, sound and faulty, as they are read.
use Rattle.std.proofs.Common.{◌≡◌, refl, pos, [], ◌∷◌, codes, Ok, Err, List, ℕ, Result, map}
use Rattle.csv.proofs.OnLiterals.{csv_on_literals}
use Rattle.core_sums.specs.Places.{below}
use Rattle.core_model.specs.declared.cert.Cert.{Cert}
use Rattle.core_model.specs.declared.cert.Cert.TheVariants.{Closes, Cannot}
use Rattle.core_model.proofs.WorkedCases.{numbers, deep, falling}
use Rattle.core_rows.specs.FirstFault.{first_fault_after}
use Rattle.core_rows.specs.Steps.{by_form, first_of}
use Rattle.core_cert.specs.Stated.{cert_of_bytes}

abbrev reading : List ℕ → Result Cert (ℕ × ℕ)
reading text = cert_of_bytes falling text

closes : reading (codes "cert,1\ncloses,1\namount,IND,position,1,10\nloss,100\nmargin,100\nweights,1\nscenario,DOWN,2,1\nfull,IND,position,10\nend\n")
    ≡ Ok (Closes (record { den = pos 1; amounts = numbers (10 ∷ []) }) (pos 100) (record { den = pos 1; scenario = numbers (0 ∷ 0 ∷ 1 ∷ []); limit = numbers (0 ∷ []); pool = []; full = pos 10 ∷ [] }))
unfolding csv_on_literals cert_of_bytes first_fault_after first_of by_form below
closes = refl

refuses : reading (codes "cert,1\ncannot\nweights,1\nlimit,IND,1,1\nfull,IND,position,1\nend\n")
    ≡ Ok (Cannot (record { den = pos 1; scenario = numbers (0 ∷ 0 ∷ 0 ∷ []); limit = numbers (1 ∷ []); pool = []; full = pos 1 ∷ [] }))
unfolding csv_on_literals cert_of_bytes first_fault_after first_of by_form below
refuses = refl

-- a text without records, a version that is not that of the case, a scenario in a certificate that refuses, a day past the last closing
-- day, a line that the case has not, a margin below nought, keys that do not rise, and no last record
faulty : map reading
    ([] ∷ codes "cert,2\n" ∷ codes "cert,1\ncannot\nweights,1\nscenario,DOWN,2,1\nend\n" ∷ codes "cert,1\ncloses,1\namount,IND,position,2,10\n"
    ∷ codes "cert,1\ncloses,1\namount,IND,collateral,1,10\n" ∷ codes "cert,1\ncloses,1\nloss,-5\nmargin,-5\n"
    ∷ codes "cert,1\ncannot\nweights,1\nlimit,IND,1,1\nlimit,IND,1,2\n" ∷ codes "cert,1\ncannot\nweights,1\n" ∷ [])
    ≡ Err (1, 1) ∷ Err (1, 2) ∷ Err (4, 4) ∷ Err (3, 9) ∷ Err (3, 11) ∷ Err (4, 13) ∷ Err (5, 12) ∷ Err (4, 15) ∷ []
unfolding csv_on_literals cert_of_bytes first_fault_after first_of by_form below
faulty = refl

-- two tiers, by amounts and by limits
deep_closes : cert_of_bytes deep (codes "cert,2\ncloses,1\namount,IND,position,1,1,6\namount,IND,position,1,2,4\nloss,112\nmargin,112\nweights,1\nscenario,DOWN,2,1\nlimit,IND,1,1,3\nfull,IND,position,13\nend\n")
    ≡ Ok (Closes (record { den = pos 1; amounts = numbers (6 ∷ 4 ∷ []) }) (pos 112) (record { den = pos 1; scenario = numbers (0 ∷ 0 ∷ 1 ∷ []); limit = numbers (3 ∷ 0 ∷ []); pool = []; full = pos 13 ∷ [] }))
unfolding csv_on_literals cert_of_bytes first_fault_after first_of by_form below
deep_closes = refl

-- version 1, an amount without its tier, a tier of nought, a tier past the last, and tiers that do not rise
deep_faulty : map (cert_of_bytes deep)
    (codes "cert,1\n" ∷ codes "cert,2\ncloses,1\namount,IND,position,1,6\n" ∷ codes "cert,2\ncloses,1\namount,IND,position,1,0,6\n"
    ∷ codes "cert,2\ncannot\nweights,1\nlimit,IND,1,3,1\n" ∷ codes "cert,2\ncannot\nweights,1\nlimit,IND,1,2,1\nlimit,IND,1,1,1\n" ∷ [])
    ≡ Err (1, 2) ∷ Err (3, 5) ∷ Err (3, 9) ∷ Err (4, 9) ∷ Err (5, 12) ∷ []
unfolding csv_on_literals cert_of_bytes first_fault_after first_of by_form below
deep_faulty = refl
