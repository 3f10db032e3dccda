-- Encode (document 01, "What each call leaves"): it writes the whole stripe; refusals in the order code sheet, 31, 33, 32.
use Rattle.std.specs.Prelude.{List, [], ◌∷◌, ◌++◌, ℕ, length}
use Rattle.codes.specs.Codes.{LinearCode, symbols, matrix}
use Rattle.codes.specs.Lengths.{symbol_length_faults, length_fault}
use Rattle.gf2.specs.Stripes.{encoding}
use Rattle.refusals.specs.Orders.{Fault, and_then, if_fine, Outcome}
use Rattle.refusals.specs.Refusals.{◌at◌}
use Rattle.code_sheets.specs.CodeReading.{reading}

-- 31, 33 (data isn't K × L bytes), 32 (stripe isn't N × L bytes)
abbrev pub encode_faults : ℕ → ℕ → ℕ → ℕ → ℕ → List Fault
encode_faults count data_symbols size data_bytes stripe_bytes =
    symbol_length_faults size
    ++ length_fault data_bytes data_symbols size (33 at 0)
    ∷ length_fault stripe_bytes count size (32 at 0)
    ∷ []

-- Encoding: code sheet, 31, 33, 32
unfoldable pub encode_verdict : List ℕ → ℕ → ℕ → ℕ → Outcome
encode_verdict sheet size data_bytes stripe_bytes =
    let code = (reading sheet).code in
    and_then (reading sheet).verdict (encode_faults (symbols code) code.data_symbols size data_bytes stripe_bytes)

-- The encoding of data symbols of L bytes: the generator-matrix product
abbrev pub encoding_of : LinearCode → ℕ → List ℕ → List ℕ
encoding_of code size contents = encoding size code.data_symbols (matrix code) contents

-- The stripe afterwards: the encoding, or where the call is refused what it was
unfoldable pub encoded_stripe : List ℕ → ℕ → List ℕ → List ℕ → List ℕ
encoded_stripe sheet size contents stripe =
    if_fine (encode_verdict sheet size (length contents) (length stripe)) (encoding_of (reading sheet).code size contents) stripe
