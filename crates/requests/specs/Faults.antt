-- The code of each fault of a request, and what the answer to it says.
use Rattle.std.specs.Prelude.{ℕ, List, codes, Option, Some, None}
use Rattle.requests.specs.declared.method.Method.{Method as WireMethod}
use Rattle.requests.specs.declared.fault.WireFault.{WireFault}
use Rattle.requests.specs.declared.fault.WireFault.TheVariants.{Head, Length, Json, Field, Path, Method, TooLarge, Memory}

-- the code of a text that is no request
abbrev pub wire_code : WireFault → List ℕ
wire_code Head = codes "W01"
wire_code Length = codes "W02"
wire_code Json = codes "W03"
wire_code Field = codes "W04"
wire_code Path = codes "W06"
wire_code (Method m) = codes "W07"
wire_code TooLarge = codes "W08"
wire_code Memory = codes "W90"

-- the status of the answer, and the method that it names
abbrev pub wire_status : WireFault → ℕ
wire_status Head = 400
wire_status Length = 400
wire_status Json = 400
wire_status Field = 400
wire_status Path = 404
wire_status (Method m) = 405
wire_status TooLarge = 413
wire_status Memory = 503

abbrev pub wire_allow : WireFault → Option WireMethod
wire_allow Head = None
wire_allow Length = None
wire_allow Json = None
wire_allow Field = None
wire_allow Path = None
wire_allow (Method m) = Some m
wire_allow TooLarge = None
wire_allow Memory = None
