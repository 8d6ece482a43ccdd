-- The texts of worked certificates.
use Rattle.std.proofs.Common.{◌≡◌, refl, pos, negsuc, [], ◌∷◌, codes}
use Rattle.std.specs.Fmt.{digits}
use Rattle.core_sums.specs.Places.{below, days_to, each}
use Rattle.core_book.specs.View.{CaseView}
use Rattle.core_book.specs.declared.parts.Kind.TheVariants.{Future, Security}
use Rattle.core_book.specs.declared.parts.Side.TheVariants.{Position, Collateral}
use Rattle.core_model.specs.declared.cert.Cert.{Cert}
use Rattle.core_model.specs.declared.cert.Cert.TheVariants.{Closes, Cannot}
use Rattle.core_model.proofs.WorkedCases.{numbers, tier_of, deep, falling}
use Rattle.core_cert.specs.Written.{cert_text}

abbrev falling_cert : Cert
falling_cert = Closes (record { den = pos 1; amounts = numbers (10 ∷ []) }) (pos 100)
    (record { den = pos 1; scenario = numbers (0 ∷ 0 ∷ 1 ∷ []); limit = numbers (0 ∷ []); pool = []; full = pos 10 ∷ [] })

closes : cert_text falling falling_cert ≡ codes "cert,1\ncloses,1\namount,IND,position,1,10\nloss,100\nmargin,100\nweights,1\nscenario,DOWN,2,1\nfull,IND,position,10\nend\n"
unfolding below days_to each digits
closes = refl

-- a loss below nought gives a margin of nought
abbrev gaining_cert : Cert
gaining_cert = Closes (record { den = pos 9; amounts = numbers (0 ∷ []) }) (negsuc 49)
    (record { den = pos 3; scenario = numbers (3 ∷ 0 ∷ 0 ∷ []); limit = numbers (0 ∷ []); pool = []; full = negsuc 13 ∷ [] })

gains : cert_text falling gaining_cert ≡ codes "cert,1\ncloses,9\nloss,-50\nmargin,0\nweights,3\nscenario,DOWN,0,3\nfull,IND,position,-14\nend\n"
unfolding below days_to each digits
gains = refl

abbrev refusing_cert : Cert
refusing_cert = Cannot (record { den = pos 1; scenario = numbers (0 ∷ 0 ∷ 0 ∷ []); limit = numbers (1 ∷ []); pool = []; full = pos 1 ∷ [] })

refuses : cert_text falling refusing_cert ≡ codes "cert,1\ncannot\nweights,1\nlimit,IND,1,1\nfull,IND,position,1\nend\n"
unfolding below days_to each digits
refuses = refl

-- two lines of two instruments, the one a position and the other collateral, with a pool and two scenarios
abbrev two_lines : CaseView
two_lines = record {
  start = pos 19723;
  horizon = 2;
  last = 2;
  holidays = [] ∷ [] ∷ [];
  instruments = record { name = codes "IND"; kind = Future; mult = pos 1; delay = 1; lag = 1; expiry = 0 }
      ∷ record { name = codes "SEC"; kind = Security; mult = pos 1; delay = 1; lag = 0; expiry = 0 } ∷ [];
  markets = 1 ∷ 1 ∷ [];
  depth = (tier_of 0 (9 ∷ 9 ∷ []) ∷ []) ∷ (tier_of 0 (9 ∷ 9 ∷ []) ∷ []) ∷ [];
  pools = record { name = codes "ALL"; cap = pos 9 } ∷ [];
  members = record { pool = 0; instrument = 0; weight = pos 1 } ∷ [];
  scenarios = codes "UP" ∷ codes "DOWN" ∷ [];
  prices = [];
  lines = record { instrument = 0; side = Position; sign = negsuc 0; amount = pos 7 }
      ∷ record { instrument = 1; side = Collateral; sign = pos 1; amount = pos 5 } ∷ [];
  cash = numbers (0 ∷ 0 ∷ 0 ∷ []);
}

abbrev two_lines_cert : Cert
two_lines_cert = Closes (record { den = pos 2; amounts = numbers (3 ∷ 4 ∷ 0 ∷ 5 ∷ []) }) (pos 12) (record {
  den = pos 6;
  scenario = numbers (0 ∷ 2 ∷ 0 ∷ 0 ∷ 0 ∷ 4 ∷ []);
  limit = numbers (0 ∷ 7 ∷ 1 ∷ 0 ∷ []);
  pool = numbers (0 ∷ 9 ∷ []);
  full = pos 8 ∷ negsuc 1 ∷ [];
})

two_lines_close : cert_text two_lines two_lines_cert ≡ codes "cert,1\ncloses,2\namount,IND,position,1,3\namount,IND,position,2,4\namount,SEC,collateral,2,5\nloss,12\nmargin,12\nweights,6\nscenario,UP,1,2\nscenario,DOWN,2,4\nlimit,IND,2,7\nlimit,SEC,1,1\npool,ALL,2,9\nfull,IND,position,8\nfull,SEC,collateral,-2\nend\n"
unfolding below days_to each digits
two_lines_close = refl

-- two tiers, by amounts and by limits
abbrev deep_cert : Cert
deep_cert = Closes (record { den = pos 1; amounts = numbers (6 ∷ 4 ∷ []) }) (pos 112)
    (record { den = pos 1; scenario = numbers (0 ∷ 0 ∷ 1 ∷ []); limit = numbers (3 ∷ 0 ∷ []); pool = []; full = pos 13 ∷ [] })

deep_closes : cert_text deep deep_cert
    ≡ codes "cert,2\ncloses,1\namount,IND,position,1,1,6\namount,IND,position,1,2,4\nloss,112\nmargin,112\nweights,1\nscenario,DOWN,2,1\nlimit,IND,1,1,3\nfull,IND,position,13\nend\n"
unfolding below days_to each digits
deep_closes = refl

abbrev deep_refusing_cert : Cert
deep_refusing_cert = Cannot (record { den = pos 1; scenario = numbers (0 ∷ 0 ∷ 0 ∷ []); limit = numbers (1 ∷ 1 ∷ []); pool = []; full = pos 1 ∷ [] })

deep_refuses : cert_text deep deep_refusing_cert ≡ codes "cert,2\ncannot\nweights,1\nlimit,IND,1,1,1\nlimit,IND,1,2,1\nfull,IND,position,1\nend\n"
unfolding below days_to each digits
deep_refuses = refl
