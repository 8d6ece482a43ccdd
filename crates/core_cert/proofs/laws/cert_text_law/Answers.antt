use Rattle.core_cert.proofs.RoundTrip.{cert_texts_read}
use Rattle.core_cert.proofs.laws.cert_text_law.Goals as goal

pub returns : goal.returns
returns c = cert_texts_read
